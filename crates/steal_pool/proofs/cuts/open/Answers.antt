use Rattle.std.proofs.Common.{◌≤◌, ℕ, sym, subst}
use Rattle.counted_deque.specs.Counted.{owner_port, owner_view}
use Rattle.steal_pool.proofs.Moves.{opens}
use Rattle.steal_pool.proofs.cuts.open.Goals as goal

pub another-requires : goal.another-requires
another-requires g c = opens (owner_port c.args.worker.now) g.N.Portion.parts (owner_view c.args.worker.now) c.requires.owns c.requires.none.0 c.requires.none.1 (subst (λ (n : ℕ). 1 ≤ n) (sym c.requires.portion.1) c.requires.portion.0)
