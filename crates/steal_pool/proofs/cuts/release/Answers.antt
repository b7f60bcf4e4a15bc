use Rattle.counted_deque.specs.Counted.{owner_port, owner_view}
use Rattle.steal_pool.proofs.Moves.{releases}
use Rattle.steal_pool.proofs.cuts.release.Goals as goal

pub release-requires : goal.release-requires
release-requires c = releases (owner_port c.args.worker.now) (owner_view c.args.worker.now) c.requires.owns c.requires.parts
