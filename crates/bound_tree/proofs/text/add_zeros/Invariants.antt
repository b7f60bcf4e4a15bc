use Rattle.std.proofs.Common.{◌≡◌, ◌++◌}
use Rattle.bound_tree.proofs.Zeros.{zeros_text}
use Rattle.bound_tree.proofs.text.add_zeros.Given as goal

abbrev pub invariant-loop-place : goal.invariant-loop-place
invariant-loop-place l = record {
  written : l.text.items ≡ l.initial.text.items ++ zeros_text l._place;
}
