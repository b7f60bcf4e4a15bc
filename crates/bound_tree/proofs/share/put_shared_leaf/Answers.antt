use Rattle.std.proofs.Common.{subst}
use Rattle.tqd_base.specs.World.{Bytes}
use Rattle.bound_tree.specs.WriteTree.{WriteGives}
use Rattle.bound_tree.specs.SlotTable.{given_of}
use Rattle.bound_tree.proofs.WritingShared.{bound_leaf, empty_leaf, winners_leaf}
use Rattle.bound_tree.proofs.share.put_shared_leaf.Goals as goal

pub returns-in-Bound-clause-writes : goal.returns-in-Bound-clause-writes
returns-in-Bound-clause-writes g c =
    subst (λ (t : Bytes). WriteGives (g.D.Desk.state c.args.desk.now) (g.D.Desk.state c.put_named.new.desk) c.args.slot t c.put_named.result)
    (bound_leaf c.args.job.now c.args.area.now (given_of c.args.job.now c.args.table.now) c.args.leaf.now c.in-Bound.row c.name-named.result c.in-Bound.is c.name-named.ensures.slot)
    c.put_named.ensures

pub returns-in-Empty-clause-writes : goal.returns-in-Empty-clause-writes
returns-in-Empty-clause-writes g c =
    subst (λ (t : Bytes). WriteGives (g.D.Desk.state c.args.desk.now) (g.D.Desk.state c.put_named-in-Empty.new.desk) c.args.slot t c.put_named-in-Empty.result)
    (empty_leaf c.args.job.now c.args.area.now (given_of c.args.job.now c.args.table.now) c.args.leaf.now c.in-Empty.row c.name-named-in-Empty.result c.in-Empty.is c.name-named-in-Empty.ensures.slot)
    c.put_named-in-Empty.ensures

pub returns-in-Winners-clause-writes : goal.returns-in-Winners-clause-writes
returns-in-Winners-clause-writes g c =
    subst (λ (t : Bytes). WriteGives (g.D.Desk.state c.args.desk.now) (g.D.Desk.state c.put_counts.new.desk) c.args.slot t c.put_counts.result)
    (winners_leaf c.args.job.now c.args.area.now (given_of c.args.job.now c.args.table.now) c.args.leaf.now c.in-Winners.is)
    c.put_counts.ensures
