use Rattle.std.proofs.Common.{◌≤◌, ℕ, ◌<◌, get_or}
use Rattle.tqd_base.specs.declared.limits.TheConstants.{QTY_MAX}
use Rattle.tqd_instance.proofs.formed.are_needs.Given as goal

abbrev pub invariant-loop-need : goal.invariant-loop-need
invariant-loop-need l = (k d : ℕ) → k < l.need-index → (1 ≤ get_or l.needs k d) × (get_or l.needs k d ≤ QTY_MAX)
