use Rattle.std.proofs.Common.{ℕ, ◌<◌, get_or}
use Rattle.tqd_instance.specs.declared.parts.StockRow.{StockRow}
use Rattle.tqd_instance.specs.Parts.{SameStock}
use Rattle.tqd_instance.proofs.formed.has_one_stock.Given as goal

abbrev pub invariant-loop-j : goal.invariant-loop-j
invariant-loop-j l = (i j : ℕ) (d : StockRow) → i < j → j < l.j → SameStock (get_or l.rows i d) (get_or l.rows j d) → ⊥
