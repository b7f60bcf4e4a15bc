use Rattle.std.proofs.Common.{true≢false, sym, ◌∙◌}
use Rattle.counted_deque.specs.Counted.{owner_port, owner_view}
use Rattle.steal_pool.proofs.Moves.{takes}
use Rattle.steal_pool.proofs.lane.Lane.pop.Goals as goal

pub pop-requires-clause-takes : goal.pop-requires-clause-takes
pop-requires-clause-takes c =
    let worker = c.self.inside.worker in
    takes (owner_port worker) (owner_view worker) (λ not. absurd (true≢false (sym c.self.invariant.1.owns ∙ not)))
