use Rattle.search_run.specs.Trims.{IsTrimOf}
use Rattle.search_run.proofs.totals.cut_by_totals.Given as goal

abbrev pub invariant-loop-i : goal.invariant-loop-i
invariant-loop-i l = IsTrimOf l.job l.area l.trim
