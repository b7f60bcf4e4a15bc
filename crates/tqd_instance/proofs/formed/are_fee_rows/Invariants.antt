use Rattle.std.proofs.Common.{ℕ, ◌<◌, get_or}
use Rattle.tqd_instance.specs.declared.parts.FeeRow.{FeeRow}
use Rattle.tqd_instance.specs.Parts.{IsFeeRow}
use Rattle.tqd_instance.proofs.formed.are_fee_rows.Given as goal

abbrev pub invariant-loop-row : goal.invariant-loop-row
invariant-loop-row l = (k : ℕ) (d : FeeRow) → k < l.row-index → IsFeeRow l.suppliers (get_or l.rows k d)
