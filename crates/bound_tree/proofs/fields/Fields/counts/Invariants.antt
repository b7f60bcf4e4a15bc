use Rattle.std.proofs.Common.{◌≡◌, ◌++◌, take, length}
use Rattle.std.specs.Option.{option_map}
use Rattle.money.specs.Number.{count_of}
use Rattle.bound_tree.specs.Words.{numbers_of}
use Rattle.bound_tree.proofs.fields.Fields.counts.Given as goal

abbrev pub invariant-loop-place : goal.invariant-loop-place
invariant-loop-place g l = record {
  full : length l.place-items ≡ g.row.N;
  read : numbers_of count_of l.initial.fields ≡ option_map (λ ns. take l.place-index l.place-items ++ ns) (numbers_of count_of l.fields);
}
