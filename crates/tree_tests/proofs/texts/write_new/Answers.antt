use Rattle.tqd_base.proofs.Written.{made_writes}
use Rattle.tree_tests.proofs.texts.write_new.Goals as goal

pub write_tree-requires-clause-writes : goal.write_tree-requires-clause-writes
write_tree-requires-clause-writes g c = made_writes (g.D.Desk.state c.args.desk.now) (g.D.Desk.state c.make.new.self) c.args.name.now c.in_ok-slot.slot c.in_ok-slot.ensures

pub write_tree-requires-in-Feasible-clause-writes :
    goal.write_tree-requires-in-Feasible-clause-writes
write_tree-requires-in-Feasible-clause-writes g c = made_writes (g.D.Desk.state c.args.desk.now) (g.D.Desk.state c.make.new.self) c.args.name.now c.in_ok-slot.slot c.in_ok-slot.ensures
