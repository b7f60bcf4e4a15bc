use Rattle.std.proofs.Common.{◌≤◌, ◌<◌, ℕ, sym, subst}
use Rattle.counted_deque.specs.Counted.{owner_port, owner_view}
use Rattle.steal_pool.proofs.Moves.{cuts}
use Rattle.steal_pool.proofs.cuts.cut.Goals as goal

pub another-requires : goal.another-requires
another-requires g c =
    let account = owner_view c.args.worker.now in
    cuts (owner_port c.args.worker.now) g.N.Portion.parts account c.requires.owns (subst (λ (n : ℕ). 1 ≤ n) (sym c.requires.portion) c.requires.parts.0) (subst (λ (n : ℕ). n < account.parts) (sym c.requires.portion) c.requires.parts.1)
