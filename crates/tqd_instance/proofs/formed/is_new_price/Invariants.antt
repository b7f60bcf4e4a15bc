use Rattle.std.proofs.Common.{ℕ, ◌<◌, get_or}
use Rattle.tqd_instance.specs.declared.parts.PriceRow.{PriceRow}
use Rattle.tqd_instance.specs.Parts.{SamePrice}
use Rattle.tqd_instance.proofs.formed.is_new_price.Given as goal

abbrev pub invariant-loop-i : goal.invariant-loop-i
invariant-loop-i l = (i : ℕ) (d : PriceRow) → i < l.i → SamePrice (get_or l.rows i d) (get_or l.rows l.j d) → ⊥
