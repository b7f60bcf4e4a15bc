use Rattle.bound_tree.specs.LineHead.{prices_of}
use Rattle.bound_tree.proofs.RowReads.{HasLeft, AreRead}
use Rattle.bound_tree.proofs.read_line.prices_into.Given as goal

abbrev pub invariant-loop-place : goal.invariant-loop-place
invariant-loop-place l = record {
  left : HasLeft (prices_of l.line) l.place-index l.fields;
  read : AreRead (prices_of l.line) l.out l.place-index;
}
