use Rattle.std.proofs.Common.{◌≡◌, length}
use Rattle.lagrangian.specs.Bundle.{AreAllCapsOf}
use Rattle.lagrangian.proofs.bundle.no_columns.Given as goal

abbrev pub invariant-loop-i : goal.invariant-loop-i
invariant-loop-i l = record { count : length l.list.items ≡ l.i; caps : AreAllCapsOf l.job l.list.items }
