use Rattle.std.proofs.Common.{ℕ, ◌<◌, get_or}
use Rattle.tqd_instance.specs.declared.parts.OverRow.{OverRow}
use Rattle.tqd_instance.specs.Parts.{IsOverRow}
use Rattle.tqd_instance.proofs.formed.are_over_rows.Given as goal

abbrev pub invariant-loop-row : goal.invariant-loop-row
invariant-loop-row l = (k : ℕ) (d : OverRow) → k < l.row-index → IsOverRow l.goods (get_or l.rows k d)
