use Rattle.std.proofs.Common.{IsTrue, rules}
use Rattle.bound_tree.proofs.OneList.{fits_as_one}
use Rattle.tree_tests.proofs.rows.values_in.Goals as goal

pub value_in-requires-clause-fits : goal.value_in-requires-clause-fits
value_in-requires-clause-fits g c =
    let fit : IsTrue c.prices_fit.result = search rules in
    (fits_as_one c.args.job.now c.args.area.now c.args.prices.now).1 (c.prices_fit.ensures.0 fit)

pub value_free_in-requires-clause-fits : goal.value_free_in-requires-clause-fits
value_free_in-requires-clause-fits g c =
    let fit : IsTrue c.prices_fit.result = search rules in
    (fits_as_one c.args.job.now c.args.area.now c.args.prices.now).1 (c.prices_fit.ensures.0 fit)
