use Rattle.std.proofs.Common.{◌≡◌, length}
use Rattle.scenarios.specs.Found.{AreKnown}
use Rattle.scenarios.proofs.shared.place.Given as goal

abbrev pub invariant-loop-cost : goal.invariant-loop-cost
invariant-loop-cost g l = record {
  count : length l.known ≡ g.E.Entries.count l.entries;
  each : AreKnown (g.E.Entries.costs l.entries) l.known;
}
