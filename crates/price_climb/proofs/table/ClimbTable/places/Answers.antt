use Rattle.std.proofs.Common.{arith}
use Rattle.price_climb.proofs.PriceLists.{price_count-is}
use Rattle.price_climb.proofs.table.ClimbTable.places.Goals as goal

pub returns-clause-count : goal.returns-clause-count
returns-clause-count c = rw (← c.self.view_is) (omega (arith, c.goods.ensures.value, c.place_count.ensures.value, price_count-is c.self.inside.job.now c.self.inside.area))
