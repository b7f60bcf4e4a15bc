use Rattle.bound_tree.specs.Prices.{price_at}
use Rattle.lagrangian.proofs.FirstLeast.{IsFirstLeastTo}
use Rattle.lagrangian.proofs.supplier.first_least.Given as goal

abbrev pub invariant-loop-j : goal.invariant-loop-j
invariant-loop-j l = IsFirstLeastTo (price_at l.worths) l.low l.j l.least
