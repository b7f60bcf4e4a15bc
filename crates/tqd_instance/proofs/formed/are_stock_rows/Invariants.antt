use Rattle.std.proofs.Common.{ℕ, ◌<◌, get_or}
use Rattle.tqd_instance.specs.declared.parts.StockRow.{StockRow}
use Rattle.tqd_instance.specs.Parts.{IsStockRow}
use Rattle.tqd_instance.proofs.formed.are_stock_rows.Given as goal

abbrev pub invariant-loop-row : goal.invariant-loop-row
invariant-loop-row l = (k : ℕ) (d : StockRow) → k < l.row-index → IsStockRow l.suppliers l.goods (get_or l.rows k d)
