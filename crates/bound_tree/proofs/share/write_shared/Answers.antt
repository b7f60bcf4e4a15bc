use Rattle.std.proofs.Common.{◌++◌, map, subst}
use Rattle.std.specs.Prelude.{Err}
use Rattle.tqd_base.specs.World.{Bytes}
use Rattle.tqd_base.specs.Calls.{Puts}
use Rattle.bound_tree.specs.declared.line.TreeLine.TheVariants.{Header2}
use Rattle.bound_tree.specs.TreeText.{plan_lines}
use Rattle.bound_tree.specs.SlotTree.{items_of}
use Rattle.bound_tree.specs.SlotText.{item_line, slot_text}
use Rattle.bound_tree.specs.Shared.{shared}
use Rattle.bound_tree.specs.WriteTree.{WriteGives, purchase_of}
use Rattle.bound_tree.proofs.Writing.{at_err, still}
use Rattle.bound_tree.proofs.WritingLines.{first_halts, first_ends, front_halts, front_ends}
use Rattle.bound_tree.proofs.WritingShared.{header2_piece}
use Rattle.bound_tree.proofs.share.write_shared.Goals as goal

pub returns-in_err-put_counts : goal.returns-in_err-put_counts
unfolding slot_text
returns-in_err-put_counts g c = λ whole e.
    let old = g.D.Desk.state c.args.desk.now in
    let new = g.D.Desk.state c.put_counts.new.desk in
    let items = items_of (shared c.args.job.now whole) in
    let stop = c.in_err-put_counts.field-0.0 in
    at_err (WriteGives old new c.args.slot (slot_text c.args.job.now (purchase_of c.args.plan) items)) _ stop c.from_residual.ensures.1
    (first_halts old new c.args.slot Header2 (plan_lines c.args.job.now (purchase_of c.args.plan) ++ map item_line items) stop c.requires.writes
    (subst (λ (t : Bytes). WriteGives old new c.args.slot t (Err stop)) header2_piece c.in_err-put_counts.ensures))

pub put_given-requires-clause-writes : goal.put_given-requires-clause-writes
put_given-requires-clause-writes g c = still (g.D.Desk.state c.args.desk.now) (g.D.Desk.state c.put_counts.new.desk) c.args.slot _ c.in_ok-put_counts.ensures c.requires.writes

pub returns-in_err-put_given : goal.returns-in_err-put_given
unfolding slot_text
returns-in_err-put_given g c = λ whole e.
    let old = g.D.Desk.state c.args.desk.now in
    let mid = g.D.Desk.state c.put_counts.new.desk in
    let new = g.D.Desk.state c.put_given.new.desk in
    let items = items_of (shared c.args.job.now whole) in
    let plan = plan_lines c.args.job.now (purchase_of c.args.plan) in
    let stop = c.in_err-put_given.field-0.0 in
    at_err (WriteGives old new c.args.slot (slot_text c.args.job.now (purchase_of c.args.plan) items)) _ stop c.from_residual-in_err-put_given.ensures.1
    (first_ends old mid new c.args.slot Header2 (plan ++ map item_line items) (Err stop) c.requires.writes (subst (Puts old mid c.args.slot) header2_piece c.in_ok-put_counts.ensures)
    (front_halts mid new c.args.slot plan (map item_line items) stop (still old mid c.args.slot _ c.in_ok-put_counts.ensures c.requires.writes) c.in_err-put_given.ensures))

pub put_shared_nodes-requires-clause-writes : goal.put_shared_nodes-requires-clause-writes
put_shared_nodes-requires-clause-writes g c =
    let mid = g.D.Desk.state c.put_counts.new.desk in
    still mid (g.D.Desk.state c.put_given.new.desk) c.args.slot _ c.in_ok-put_given.ensures (still (g.D.Desk.state c.args.desk.now) mid c.args.slot _ c.in_ok-put_counts.ensures c.requires.writes)

pub returns : goal.returns
unfolding slot_text
returns g c = λ whole e.
    let old = g.D.Desk.state c.args.desk.now in
    let mid = g.D.Desk.state c.put_counts.new.desk in
    let after = g.D.Desk.state c.put_given.new.desk in
    let new = g.D.Desk.state c.put_shared_nodes.new.desk in
    let plan = plan_lines c.args.job.now (purchase_of c.args.plan) in
    let lines = map item_line (items_of (shared c.args.job.now whole)) in
    first_ends old mid new c.args.slot Header2 (plan ++ lines) c.put_shared_nodes.result c.requires.writes (subst (Puts old mid c.args.slot) header2_piece c.in_ok-put_counts.ensures)
    (front_ends mid after new c.args.slot plan lines c.put_shared_nodes.result (still old mid c.args.slot _ c.in_ok-put_counts.ensures c.requires.writes) c.in_ok-put_given.ensures
    (c.put_shared_nodes.ensures whole e))
