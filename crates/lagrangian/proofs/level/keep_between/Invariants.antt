use Rattle.lagrangian.proofs.Keeping.{IsKeptTo}
use Rattle.lagrangian.proofs.level.keep_between.Given as goal

abbrev pub invariant-loop-n : goal.invariant-loop-n
invariant-loop-n l = IsKeptTo l.from l.to l.fn.offers l.offers l.count l.n
