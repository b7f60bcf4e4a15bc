use Rattle.std.proofs.Common.{IfSome}
use Rattle.interval_box.specs.Halves.{IsProper}
use Rattle.search_run.proofs.trim.last_below_high_end.Given as goal

abbrev pub invariant-loop-j : goal.invariant-loop-j
invariant-loop-j l = IfSome l.last (IsProper l.area l.i)
