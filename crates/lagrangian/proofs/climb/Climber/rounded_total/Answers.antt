use Rattle.std.proofs.Common.{arith}
use Rattle.lagrangian.proofs.climb.Climber.rounded_total.Goals as goal

pub overflow_cast-result : goal.overflow_cast-result
overflow_cast-result c = rw c.from-whole.ensures (omega (arith, c.weighted_total.ensures.within))
