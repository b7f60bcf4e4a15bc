use Rattle.std.proofs.Common.{◌≡◌, length}
use Rattle.std.specs.List.{All}
use Rattle.lagrangian.specs.Priced.{IsGoodPrice}
use Rattle.lagrangian.proofs.trial.Trial.prices_into.Given as goal

abbrev pub invariant-loop-k : goal.invariant-loop-k
invariant-loop-k l = record { count : length l.out.items ≡ length l.fn.out.items; in_range : All IsGoodPrice l.out.items }
