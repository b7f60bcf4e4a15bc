use Rattle.std.proofs.Common.{ℕ, ◌≡◌, ◌<◌}
use Rattle.search_book.specs.Nodes.{phase_of}
use Rattle.search_book.specs.Counts.{names}
use Rattle.search_book.proofs.above.split_above.Given as goal

-- none so far was split into the node
abbrev pub invariant-loop-k : goal.invariant-loop-k
invariant-loop-k l = (j : ℕ) → j < l.k → names l.n (phase_of l.nodes j) ≡ 0
