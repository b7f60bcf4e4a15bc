use Rattle.counted_deque.specs.Counted.{owner_port, owner_view, pass_number, pass_view}
use Rattle.steal_pool.proofs.Moves.{holds}
use Rattle.steal_pool.proofs.cuts.hold.Goals as goal

pub absorb-requires-clause-rule : goal.absorb-requires-clause-rule
absorb-requires-clause-rule c =
    let worker = c.args.worker.now in
    let token = c.args.token in
    holds (owner_port worker) (owner_view worker) (pass_number token) (pass_view token) c.requires.owns c.requires.pass.0 c.requires.pass.1
