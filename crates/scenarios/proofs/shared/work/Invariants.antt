use Rattle.scenarios.specs.Found.{AreFound}
use Rattle.scenarios.proofs.shared.work.Given as goal

abbrev pub invariant-loop : goal.invariant-loop
invariant-loop g l = AreFound (g.E.Entries.count l.entries) (g.E.Entries.costs l.entries) l.found.items
