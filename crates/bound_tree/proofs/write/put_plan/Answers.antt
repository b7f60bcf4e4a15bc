use Rattle.std.proofs.Common.{◌≡◌, ℕ, List, length, ap, sym, ◌∙◌, subst, arith, refl}
use Rattle.std.specs.Prelude.{Some, Ok, Err}
use Rattle.tqd_base.specs.World.{Bytes}
use Rattle.tqd_base.specs.Calls.{Puts}
use Rattle.tqd_instance.specs.Job.{goods, suppliers}
use Rattle.tqd_instance.specs.Plan.{units}
use Rattle.tqd_instance.specs.Cost.{cost}
use Rattle.bound_tree.specs.declared.line.TreeLine.{TreeLine}
use Rattle.bound_tree.specs.declared.line.TreeLine.TheVariants.{Plan}
use Rattle.bound_tree.specs.TreeText.{lines_to, buy_line, buy_lines, plan_lines, lines_text}
use Rattle.bound_tree.specs.WriteTree.{WriteGives}
use Rattle.bound_tree.proofs.Writing.{at_err, still}
use Rattle.bound_tree.proofs.WritingLines.{lines_begin, lines_more, lines_halt, first_halts, first_ends, plan_piece, buys_of}
use Rattle.bound_tree.proofs.write.put_plan.Goals as goal

pub returns-in_err-put_counts : goal.returns-in_err-put_counts
returns-in_err-put_counts g c =
    let old = g.D.Desk.state c.args.desk.now in
    let new = g.D.Desk.state c.put_counts.new.desk in
    let job = c.args.job.now in
    let x = units c.args.plan.now in
    let stop = c.in_err-put_counts.field-0.0 in
    let piece = plan_piece job x c.args.cost c.buy_count-count.result c.requires.priced c.buy_count-count.ensures.value in
    at_err (WriteGives old new c.args.slot (lines_text (plan_lines job (Some x)))) _ stop c.from_residual.ensures.1
    (first_halts old new c.args.slot (Plan (cost job x) (length (buy_lines job x))) (buy_lines job x) stop c.requires.writes
    (subst (λ (t : Bytes). WriteGives old new c.args.slot t (Err stop)) piece c.in_err-put_counts.ensures))

pub loop-i-init : goal.loop-i-init
loop-i-init g c =
    lines_begin (g.D.Desk.state c.put_counts.new.desk) c.args.slot _ (still (g.D.Desk.state c.args.desk.now) (g.D.Desk.state c.put_counts.new.desk) c.args.slot _ c.in_ok-put_counts.ensures c.requires.writes)

pub returns-in_err-put_buys : goal.returns-in_err-put_buys
returns-in_err-put_buys g c =
    let old = g.D.Desk.state c.args.desk.now in
    let mid = g.D.Desk.state c.put_counts.new.desk in
    let new = g.D.Desk.state c.put_buys.new.desk in
    let job = c.args.job.now in
    let x = units c.args.plan.now in
    let stop = c.in_err-put_buys.field-0.0 in
    let piece = plan_piece job x c.args.cost c.buy_count-count.result c.requires.priced c.buy_count-count.ensures.value in
    let here = lines_to (goods job) (buy_line x c.loop-i.i) in
    let buys = lines_halt mid (g.D.Desk.state c.loop-i.desk) new c.args.slot (λ i. lines_to (goods job) (buy_line x i)) (suppliers job) c.loop-i.i here stop
    (omega (arith, c.loop-i-test.true, c.suppliers-i-end.ensures.value)) refl c.loop-i.invariant c.in_err-put_buys.ensures in
    at_err (WriteGives old new c.args.slot (lines_text (plan_lines job (Some x)))) _ stop c.from_residual-in_err-put_buys.ensures.1
    (first_ends old mid new c.args.slot (Plan (cost job x) (length (buy_lines job x))) (buy_lines job x) (Err stop) c.requires.writes
    (subst (Puts old mid c.args.slot) piece c.in_ok-put_counts.ensures)
    (subst (λ (t : List TreeLine). WriteGives mid new c.args.slot (lines_text t) (Err stop)) (sym (buys_of job x)) buys))

pub loop-i-preserved : goal.loop-i-preserved
loop-i-preserved g c =
    lines_more (g.D.Desk.state c.put_counts.new.desk) (g.D.Desk.state c.loop-i.desk) (g.D.Desk.state c.put_buys.new.desk) c.args.slot (λ i. lines_to (goods c.args.job.now) (buy_line (units c.args.plan.now) i)) c.loop-i.i
    (lines_to (goods c.args.job.now) (buy_line (units c.args.plan.now) c.loop-i.i)) refl c.loop-i.invariant c.in_ok-put_buys.ensures

pub returns : goal.returns
returns g c =
    let old = g.D.Desk.state c.args.desk.now in
    let mid = g.D.Desk.state c.put_counts.new.desk in
    let new = g.D.Desk.state c.loop-i.desk in
    let job = c.args.job.now in
    let x = units c.args.plan.now in
    let piece = plan_piece job x c.args.cost c.buy_count-count.result c.requires.priced c.buy_count-count.ensures.value in
    let last : c.loop-i.i ≡ suppliers job = omega (arith, c.loop-i-test.false, c.loop-i.auto.i-end, c.suppliers-i-end.ensures.value) in
    let all : lines_to c.loop-i.i (λ i. lines_to (goods job) (buy_line x i)) ≡ buy_lines job x = ap (λ (n : ℕ). lines_to n (λ i. lines_to (goods job) (buy_line x i))) last ∙ sym (buys_of job x) in
    first_ends old mid new c.args.slot (Plan (cost job x) (length (buy_lines job x))) (buy_lines job x) (Ok tt) c.requires.writes
    (subst (Puts old mid c.args.slot) piece c.in_ok-put_counts.ensures)
    (subst (λ (t : List TreeLine). Puts mid new c.args.slot (lines_text t)) all c.loop-i.invariant.puts)
