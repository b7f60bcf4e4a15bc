use Rattle.std.proofs.Common.{◌<◌}
use Rattle.lagrangian.specs.declared.weights.TheConstants.{COLUMNS_MAX}
use Rattle.lagrangian.proofs.columns.Columns.least_pair.Given as goal

abbrev pub invariant-loop-n : goal.invariant-loop-n
invariant-loop-n l = record { first : l.pair.0 < COLUMNS_MAX; second : l.pair.1 < COLUMNS_MAX }
