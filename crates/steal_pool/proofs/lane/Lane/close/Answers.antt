use Rattle.counted_deque.specs.Counted.{owner_port, owner_view}
use Rattle.steal_pool.proofs.Moves.{drains, drained}
use Rattle.steal_pool.proofs.lane.Lane.close.Goals as goal

pub pop-requires-clause-takes : goal.pop-requires-clause-takes
pop-requires-clause-takes c =
    let l = c.loop-ticket in
    drains (owner_port l.worker) (owner_view l.worker) l.invariant.owns l.invariant.all

pub pop-requires-clause-empty : goal.pop-requires-clause-empty
pop-requires-clause-empty c =
    let l = c.loop-ticket in
    drained (owner_port l.worker) (owner_view l.worker) l.invariant.owns l.invariant.all
