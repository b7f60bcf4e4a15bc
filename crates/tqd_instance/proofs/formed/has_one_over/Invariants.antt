use Rattle.std.proofs.Common.{ℕ, ◌≡◌, ◌<◌, get_or}
use Rattle.tqd_instance.specs.declared.parts.OverRow.{OverRow}
use Rattle.tqd_instance.proofs.formed.has_one_over.Given as goal

abbrev pub invariant-loop-j : goal.invariant-loop-j
invariant-loop-j l = (i j : ℕ) (d : OverRow) → i < j → j < l.j → (get_or l.rows i d).good ≡ (get_or l.rows j d).good → ⊥
