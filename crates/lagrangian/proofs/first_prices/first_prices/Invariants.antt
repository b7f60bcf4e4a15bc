use Rattle.std.proofs.Common.{◌≡◌, length}
use Rattle.std.specs.List.{All}
use Rattle.lagrangian.specs.Priced.{IsGoodPrice}
use Rattle.lagrangian.proofs.first_prices.first_prices.Given as goal

abbrev pub invariant-loop-k : goal.invariant-loop-k
invariant-loop-k l = record { count : length l.prices.items ≡ l.k; in_range : All IsGoodPrice l.prices.items }
