use Rattle.std.proofs.Common.{ℕ, ◌≡◌, ◌<◌, get_or}
use Rattle.tqd_instance.specs.declared.parts.FeeRow.{FeeRow}
use Rattle.tqd_instance.proofs.formed.has_one_fee.Given as goal

abbrev pub invariant-loop-j : goal.invariant-loop-j
invariant-loop-j l = (i j : ℕ) (d : FeeRow) → i < j → j < l.j → (get_or l.rows i d).supplier ≡ (get_or l.rows j d).supplier → ⊥
