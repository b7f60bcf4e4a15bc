use Rattle.std.proofs.Common.{take}
use Rattle.std.specs.List.{All}
use Rattle.lagrangian.specs.Priced.{IsGoodPrice}
use Rattle.lagrangian_tests.proofs.pricings.are_good.Given as goal

abbrev pub invariant-loop-price : goal.invariant-loop-price
invariant-loop-price l = All IsGoodPrice (take l.price-index l.prices)
