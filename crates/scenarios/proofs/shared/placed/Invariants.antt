use Rattle.std.proofs.Common.{◌≡◌, length}
use Rattle.scenarios.specs.Found.{AreKnown}
use Rattle.scenarios.proofs.shared.placed.Given as goal

abbrev pub invariant-loop-batch : goal.invariant-loop-batch
invariant-loop-batch g l = record {
  count : length l.known.items ≡ g.E.Entries.count l.entries;
  each : AreKnown (g.E.Entries.costs l.entries) l.known.items;
}
