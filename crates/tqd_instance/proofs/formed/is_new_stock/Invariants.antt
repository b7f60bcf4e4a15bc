use Rattle.std.proofs.Common.{ℕ, ◌<◌, get_or}
use Rattle.tqd_instance.specs.declared.parts.StockRow.{StockRow}
use Rattle.tqd_instance.specs.Parts.{SameStock}
use Rattle.tqd_instance.proofs.formed.is_new_stock.Given as goal

abbrev pub invariant-loop-i : goal.invariant-loop-i
invariant-loop-i l = (i : ℕ) (d : StockRow) → i < l.i → SameStock (get_or l.rows i d) (get_or l.rows l.j d) → ⊥
