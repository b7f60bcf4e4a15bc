use Rattle.std.proofs.Common.{◌≡◌, take}
use Rattle.offer_reader.proofs.offers.add_needs.Given as goal

abbrev pub invariant-loop-k : goal.invariant-loop-k
invariant-loop-k l = l.parts ≡ record l.initial.parts { needs = take l.k l.needs.units }
