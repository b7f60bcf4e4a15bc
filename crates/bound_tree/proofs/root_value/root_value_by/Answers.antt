use Rattle.std.proofs.Common.{arith}
use Rattle.std.proofs.lemmas.Int.{ints}
use Rattle.bound_tree.specs.Asked.{charges_by}
use Rattle.bound_tree.proofs.RootValues.{narrowed_value}
use Rattle.bound_tree.proofs.root_value.root_value_by.Goals as goal

pub returns-clause-value : goal.returns-clause-value
returns-clause-value c =
    let is = narrowed_value (charges_by c.args.asked c.args.job.now) c.args.job.now c.args.area.now (record { goods = c.args.good_prices.now; places = c.args.place_prices.now }) c.requires.of_job in
    omega (arith, ints, is, c.goods_value.ensures.value, c.root_suppliers_value.ensures.value)
