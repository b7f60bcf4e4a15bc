use Rattle.std.specs.Prelude.{IfSome}
use Rattle.lagrangian.specs.Swaps.{IsSwap}
use Rattle.lagrangian.proofs.swap.best_of.Given as goal

abbrev pub invariant-loop-j : goal.invariant-loop-j
invariant-loop-j l = IfSome l.best (IsSwap l.job l.area)
