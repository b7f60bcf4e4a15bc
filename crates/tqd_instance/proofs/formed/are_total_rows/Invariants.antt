use Rattle.std.proofs.Common.{ℕ, ◌<◌, get_or}
use Rattle.tqd_instance.specs.declared.parts.TotalRow.{TotalRow}
use Rattle.tqd_instance.specs.Parts.{IsTotalRow}
use Rattle.tqd_instance.proofs.formed.are_total_rows.Given as goal

abbrev pub invariant-loop-row : goal.invariant-loop-row
invariant-loop-row l = (k : ℕ) (d : TotalRow) → k < l.row-index → IsTotalRow l.suppliers (get_or l.rows k d)
