use Rattle.std.proofs.Common.{◌≡◌}
use Rattle.search_tests.proofs.lanes.fill.Given as goal

abbrev pub invariant-loop-ticket : goal.invariant-loop-ticket
invariant-loop-ticket l = (l.lane.lane ≡ l.fn.lane.lane) × (l.lane.parts ≡ l.fn.lane.parts)
