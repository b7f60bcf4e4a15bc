use Rattle.std.proofs.Common.{ℕ, ◌<◌, get_or}
use Rattle.tqd_instance.specs.declared.parts.PriceRow.{PriceRow}
use Rattle.tqd_instance.specs.Parts.{IsPriceRow}
use Rattle.tqd_instance.proofs.formed.are_price_rows.Given as goal

abbrev pub invariant-loop-row : goal.invariant-loop-row
invariant-loop-row l = (k : ℕ) (d : PriceRow) → k < l.row-index → IsPriceRow l.suppliers l.goods (get_or l.rows k d)
