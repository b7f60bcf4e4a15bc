use Rattle.tqd_base.proofs.Written.{made_writes}
use Rattle.tree_tests.proofs.shares.share_new.Goals as goal

pub write_shared-requires-clause-writes : goal.write_shared-requires-clause-writes
write_shared-requires-clause-writes g c = made_writes (g.D.Desk.state c.args.desk.now) (g.D.Desk.state c.make.new.self) c.args.name.now c.in_ok-slot.slot c.in_ok-slot.ensures
