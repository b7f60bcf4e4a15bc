use Rattle.std.proofs.Common.{ℕ, ◌<◌, get_or}
use Rattle.tqd_instance.specs.declared.parts.PriceRow.{PriceRow}
use Rattle.tqd_instance.specs.Parts.{SamePrice}
use Rattle.tqd_instance.proofs.formed.has_one_price.Given as goal

abbrev pub invariant-loop-j : goal.invariant-loop-j
invariant-loop-j l = (i j : ℕ) (d : PriceRow) → i < j → j < l.j → SamePrice (get_or l.rows i d) (get_or l.rows j d) → ⊥
