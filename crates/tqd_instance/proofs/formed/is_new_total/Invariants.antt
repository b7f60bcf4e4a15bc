use Rattle.std.proofs.Common.{ℕ, ◌≡◌, ◌<◌, get_or}
use Rattle.tqd_instance.specs.declared.parts.TotalRow.{TotalRow}
use Rattle.tqd_instance.proofs.formed.is_new_total.Given as goal

abbrev pub invariant-loop-i : goal.invariant-loop-i
invariant-loop-i l = (i : ℕ) (d : TotalRow) → i < l.i → (get_or l.rows i d).supplier ≡ (get_or l.rows l.j d).supplier → ⊥
