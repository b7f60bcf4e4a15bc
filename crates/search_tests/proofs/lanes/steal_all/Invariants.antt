use Rattle.std.proofs.Common.{◌≡◌}
use Rattle.search_tests.proofs.lanes.steal_all.Given as goal

abbrev pub invariant-loop : goal.invariant-loop
invariant-loop g l = (goal.iterator-loop g).can_next l.iterator' × (goal.iterator-loop g).is_finite l.iterator' × (l.pass.lane ≡ l.initial.pass.lane) × (l.pass.parts ≡ l.initial.pass.parts) × (l.pass.got ≡ l.tickets.items)
