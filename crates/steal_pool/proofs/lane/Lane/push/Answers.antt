use Rattle.std.proofs.Common.{[], ◌∷◌}
use Rattle.counted_deque.specs.Counted.{owner_port, owner_view}
use Rattle.steal_pool.proofs.Moves.{pushes}
use Rattle.steal_pool.proofs.lane.Lane.push.Goals as goal

pub push-requires-clause-pushes : goal.push-requires-clause-pushes
push-requires-clause-pushes c =
    let worker = c.self.inside.worker in
    pushes (owner_port worker) (owner_view worker) (_ ∷ []) c.self.invariant.1.owns
