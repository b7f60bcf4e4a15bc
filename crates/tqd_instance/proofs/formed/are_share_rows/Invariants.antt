use Rattle.std.proofs.Common.{ℕ, ◌<◌, get_or}
use Rattle.tqd_instance.specs.declared.parts.ShareRow.{ShareRow}
use Rattle.tqd_instance.specs.Parts.{IsShareRow}
use Rattle.tqd_instance.proofs.formed.are_share_rows.Given as goal

abbrev pub invariant-loop-row : goal.invariant-loop-row
invariant-loop-row l = (k : ℕ) (d : ShareRow) → k < l.row-index → IsShareRow l.suppliers (get_or l.rows k d)
