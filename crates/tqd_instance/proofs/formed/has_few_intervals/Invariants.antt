use Rattle.std.proofs.Common.{ℕ, List, ◌≤◌, ◌<◌, length}
use Rattle.tqd_base.specs.declared.limits.TheConstants.{INTERVALS_MAX}
use Rattle.tqd_instance.specs.Parts.{AreFroms}
use Rattle.tqd_instance.proofs.formed.has_few_intervals.Given as goal

abbrev pub invariant-loop-i : goal.invariant-loop-i
invariant-loop-i l = (i : ℕ) (froms : List ℕ) → i < l.i → AreFroms l.parts i froms → length froms ≤ INTERVALS_MAX
