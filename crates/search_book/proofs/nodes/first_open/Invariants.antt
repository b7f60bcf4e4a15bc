use Rattle.std.proofs.Common.{ℕ, ◌≢◌, ◌<◌, ◌≤◌}
use Rattle.search_book.specs.declared.node.Phase.TheVariants.{Open}
use Rattle.search_book.specs.Nodes.{phase_of}
use Rattle.search_book.proofs.nodes.first_open.Given as goal

-- none so far is Open
abbrev pub invariant-loop-n : goal.invariant-loop-n
invariant-loop-n l = (k : ℕ) → l.from ≤ k → k < l.n → phase_of l.nodes k ≢ Open
