-- What a worker keeps from box to box.
use Rattle.std.specs.Prelude.{IfSome}
use Rattle.tqd_instance.specs.declared.job.Job.{Job}
use Rattle.interval_box.specs.declared.boxes.IntervalBox.{IntervalBox}
use Rattle.interval_box.specs.Ranges.{IsBoxOf}
use Rattle.lagrangian.specs.Pricing.{IsMadeFor, IsPricedFor}
use Rattle.lagrangian.specs.Climbing.{IsClimberOf}
use Rattle.lagrangian.specs.Limits.{AreLimits}
use Rattle.search_run.specs.declared.mind.Mind.{Mind}

-- a box of the job, of which the pricing is that at some prices of the goods
pub record IsPricedIn (job : Job) (mind : Mind) (area : IntervalBox) : Type 0 where
  pub of_job : IsBoxOf job area
  pub priced : IsPricedFor job area mind.pricing.goods mind.pricing

-- what a worker keeps is of a job
pub record IsMindOf (job : Job) (mind : Mind) : Type 0 where
  pub climber : IsClimberOf job mind.climber
  pub pricing : IsMadeFor job mind.pricing
  pub limits : AreLimits job mind.limits
  pub priced : IfSome mind.priced (IsPricedIn job mind)
