use Rattle.std.specs.Prelude.{IfSome}
use Rattle.lagrangian.specs.Swaps.{IsSwap}
use Rattle.lagrangian.proofs.swap.best_swap.Given as goal

abbrev pub invariant-loop-i : goal.invariant-loop-i
invariant-loop-i l = IfSome l.best (IsSwap l.job l.area)
