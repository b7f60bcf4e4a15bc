use Rattle.std.proofs.Common.{ℕ, Option, sym, ◌∙◌, ap, subst, Bor}
use Rattle.tqd_base.specs.World.{Bytes}
use Rattle.tqd_instance.specs.declared.plan.Plan.{Plan}
use Rattle.bound_tree.specs.TreeText.{plan_lines, lines_text}
use Rattle.bound_tree.specs.WriteTree.{WriteGives, purchase_of}
use Rattle.bound_tree.proofs.WritingLines.{none_piece}
use Rattle.bound_tree.proofs.write.put_given.Goals as goal

pub returns-in-None : goal.returns-in-None
returns-in-None g c =
    let text = ap (λ (plan : Option (Bor Plan × ℕ)). lines_text (plan_lines c.args.job.now (purchase_of plan))) c.in-None.is in
    subst (λ (t : Bytes). WriteGives (g.D.Desk.state c.args.desk.now) (g.D.Desk.state c.put_counts.new.desk) c.args.slot t c.put_counts.result) (none_piece ∙ sym text) c.put_counts.ensures

pub returns-in-Some : goal.returns-in-Some
returns-in-Some g c =
    let text = ap (λ (plan : Option (Bor Plan × ℕ)). lines_text (plan_lines c.args.job.now (purchase_of plan))) c.in-Some.is in
    subst (λ (t : Bytes). WriteGives (g.D.Desk.state c.args.desk.now) (g.D.Desk.state c.put_plan.new.desk) c.args.slot t c.put_plan.result) (sym text) c.put_plan.ensures
