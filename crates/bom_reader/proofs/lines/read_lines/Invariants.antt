use Rattle.bom_reader.proofs.LineFacts.{HasLines}
use Rattle.bom_reader.proofs.lines.read_lines.Given as goal

abbrev pub invariant-loop-row : goal.invariant-loop-row
invariant-loop-row l = HasLines l.fn.names l.table l.row l.names l.lines.items l.pairs
