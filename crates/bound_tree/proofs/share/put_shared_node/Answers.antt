use Rattle.std.proofs.Common.{subst}
use Rattle.tqd_base.specs.World.{Bytes}
use Rattle.bound_tree.specs.WriteTree.{WriteGives}
use Rattle.bound_tree.specs.SlotTable.{given_of}
use Rattle.bound_tree.proofs.WritingShared.{split_node}
use Rattle.bound_tree.proofs.share.put_shared_node.Goals as goal

pub returns-in-Split-clause-writes : goal.returns-in-Split-clause-writes
returns-in-Split-clause-writes g c =
    subst (λ (t : Bytes). WriteGives (g.D.Desk.state c.args.desk.now) (g.D.Desk.state c.put_counts.new.desk) c.args.slot t c.put_counts.result)
    (split_node c.args.job.now c.args.area.now (given_of c.args.job.now c.args.table.now) c.args.node.now c.in-Split.supplier c.in-Split.at c.from.result c.from-in-Split.result
    c.in-Split.is c.from.ensures c.from-in-Split.ensures)
    c.put_counts.ensures
