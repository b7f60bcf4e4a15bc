-- What every plan buys are quantities.
use Rattle.std.proofs.Common.{ℕ, ◌≤◌}
use Rattle.tqd_base.specs.declared.limits.TheConstants.{QTY_MAX}
use Rattle.tqd_instance.specs.declared.plan.Plan.{Plan}
use Rattle.tqd_instance.specs.Plan.{units}

pub units_within : (plan : Plan) (i k : ℕ) → units plan i k ≤ QTY_MAX
unfolding units
units_within plan i k = plan.facts.small _
