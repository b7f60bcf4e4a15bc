use Rattle.std.proofs.Common.{◌≡◌, ◌+◌, length}
use Rattle.std.specs.Option.{option_map}
use Rattle.money.specs.Number.{signed_of}
use Rattle.bound_tree.specs.Words.{numbers_of}
use Rattle.bound_tree.proofs.fields.Fields.price_count.Given as goal

abbrev pub invariant-loop-field : goal.invariant-loop-field
invariant-loop-field l = record {
  counted : option_map length (numbers_of signed_of l.initial.fields) ≡ option_map (λ ns. l.count + length ns) (numbers_of signed_of l.fields);
  bound : l.count + length l.fields ≡ length l.initial.fields;
}

abbrev pub decreases-loop-field : goal.decreases-loop-field
decreases-loop-field l = length l.fields
