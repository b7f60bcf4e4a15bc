use Rattle.std.proofs.Common.{ℕ, ◌≡◌, ◌<◌, get_or}
use Rattle.tqd_instance.specs.declared.parts.FeeRow.{FeeRow}
use Rattle.tqd_instance.proofs.formed.is_new_fee.Given as goal

abbrev pub invariant-loop-i : goal.invariant-loop-i
invariant-loop-i l = (i : ℕ) (d : FeeRow) → i < l.i → (get_or l.rows i d).supplier ≡ (get_or l.rows l.j d).supplier → ⊥
