use Rattle.std.proofs.Common.{◌≡◌, length}
use Rattle.std.specs.List.{All}
use Rattle.lagrangian.specs.Columns.{IsColumn}
use Rattle.lagrangian.proofs.columns.places.Given as goal

abbrev pub invariant-loop : goal.invariant-loop
invariant-loop l = record { count : length l.list.items ≡ l.counter; each : All (IsColumn l.caps) l.list.items }
