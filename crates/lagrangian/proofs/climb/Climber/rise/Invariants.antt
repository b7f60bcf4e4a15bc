use Rattle.std.proofs.Common.{◌<◌}
use Rattle.lagrangian.specs.Pricing.{IsMadeFor}
use Rattle.lagrangian.specs.Bundle.{AreWholeIn}
use Rattle.lagrangian.specs.Climbing.{IsClimberOf, NoRowIsAbove}
use Rattle.lagrangian.specs.Rounds.{IsBelow, IsBestValue}
use Rattle.lagrangian.proofs.climb.Climber.rise.Given as goal

abbrev pub invariant-loop : goal.invariant-loop
invariant-loop l = record {
  made : IsClimberOf l.job l.self;
  pricing_made : IsMadeFor l.job l.pricing;
  whole : AreWholeIn l.job l.area l.self.bundle;
  at_best : IsBestValue l.job l.area l.self.goods.items l.best;
  not_lower : NoRowIsAbove l.job l.area l.fn.self.goods.items l.best;
  below : IsBelow l.target l.best;
  flat : l.flat < 4;
}
