use Rattle.std.proofs.Common.{◌≤◌}
use Rattle.lagrangian.proofs.lack.winners_of.Given as goal

abbrev pub invariant-loop-i : goal.invariant-loop-i
invariant-loop-i l = l.number ≤ l.i
