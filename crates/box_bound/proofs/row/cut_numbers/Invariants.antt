use Rattle.box_bound.specs.NodeRow.{cut_number}
use Rattle.box_bound.proofs.NumberRows.{AreFirst}
use Rattle.box_bound.proofs.row.cut_numbers.Given as goal

abbrev pub invariant-loop-n : goal.invariant-loop-n
invariant-loop-n l = AreFirst l.n l.numbers.items (cut_number l.set)
