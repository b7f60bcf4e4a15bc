use Rattle.std.proofs.Common.{◌≡◌, take, length}
use Rattle.bound_tree.specs.LineHead.{prices_of}
use Rattle.bound_tree.proofs.RowReads.{HasLeft}
use Rattle.bound_tree.proofs.reader.row_prices.Given as goal

abbrev pub invariant-loop-place : goal.invariant-loop-place
invariant-loop-place l = record {
  left : HasLeft (prices_of l.line) l._place l.fields;
  count : length (prices_of l.line) ≡ l.count;
  done : l.numbers.items ≡ take l._place (prices_of l.line);
}
