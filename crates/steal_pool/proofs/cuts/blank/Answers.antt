use Rattle.counted_deque.specs.Counted.{owner_port, owner_view}
use Rattle.steal_pool.proofs.Moves.{blanks}
use Rattle.steal_pool.proofs.cuts.blank.Goals as goal

pub another-requires : goal.another-requires
another-requires c = blanks (owner_port c.args.worker.now) (owner_view c.args.worker.now) c.requires.owns
