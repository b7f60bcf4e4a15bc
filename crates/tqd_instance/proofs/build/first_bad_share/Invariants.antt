use Rattle.std.proofs.Common.{ℕ, ◌<◌}
use Rattle.tqd_instance.specs.Built.{HasBadShare}
use Rattle.tqd_instance.proofs.build.first_bad_share.Given as goal

abbrev pub invariant-loop-i : goal.invariant-loop-i
invariant-loop-i l = (i : ℕ) → i < l.i → HasBadShare l.parts i → ⊥
