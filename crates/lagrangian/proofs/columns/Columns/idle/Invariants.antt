use Rattle.std.proofs.Common.{◌<◌}
use Rattle.std.specs.Option.{IfSome}
use Rattle.lagrangian.specs.declared.weights.TheConstants.{COLUMNS_MAX}
use Rattle.lagrangian.proofs.columns.Columns.idle.Given as goal

abbrev pub invariant-loop-at : goal.invariant-loop-at
invariant-loop-at l = IfSome l.best (λ at. at < COLUMNS_MAX)
