use Rattle.std.proofs.Common.{◌≡◌, fold, take}
use Rattle.offer_reader.specs.Terms.{with_term}
use Rattle.offer_reader.proofs.term.add_terms.Given as goal

abbrev pub invariant-loop-term : goal.invariant-loop-term
invariant-loop-term l = l.parts ≡ fold with_term l.initial.parts (take l.term-index l.terms)
