use Rattle.std.proofs.Common.{◌∙◌, sym, subst, refl, arith, slice_index}
use Rattle.tqd_instance.specs.Job.{goods}
use Rattle.lagrangian.specs.Priced.{AreCheapest}
use Rattle.lagrangian.proofs.Finding.{found_read, place_got, worth_got, first_is, priced_from, least_value, filled_in_range, few_suppliers, few_segments, worth_range_of}
use Rattle.lagrangian.proofs.supplier.SupplierPrices.price.Goals as goal

pub low_of-requires : goal.low_of-requires
low_of-requires c = few_suppliers c.args.job.now c.args.i c.requires.supplier

pub high_of-requires : goal.high_of-requires
high_of-requires c = few_suppliers c.args.job.now c.args.i c.requires.supplier

pub first_least-least-requires-clause-places : goal.first_least-least-requires-clause-places
first_least-least-requires-clause-places c =
    omega (arith, few_segments c.args.job.now c.args.area.now c.args.i c.requires.of_job c.requires.supplier, c.price_places.ensures.in_range.worth_count)

pub first_least-least-requires-clause-few : goal.first_least-least-requires-clause-few
first_least-least-requires-clause-few c = omega (arith, few_segments c.args.job.now c.args.area.now c.args.i c.requires.of_job c.requires.supplier)

pub bounds-self-from : goal.bounds-self-from
bounds-self-from c = omega (arith, few_segments c.args.job.now c.args.area.now c.args.i c.requires.of_job c.requires.supplier, c.first_least-least.ensures.to_high)

pub bounds-self-from-2 : goal.bounds-self-from-2
bounds-self-from-2 c = omega (arith, few_segments c.args.job.now c.args.area.now c.args.i c.requires.of_job c.requires.supplier, c.first_least-least.ensures.to_high)

pub fill-requires-clause-found : goal.fill-requires-clause-found
fill-requires-clause-found c =
    let least = c.first_least-least.result in
    let p = c.price_places.new.self in
    let e = c.first_least-least.ensures in
    let f = first_is c.args.area.now c.args.i c.low_of.result c.high_of.result least p c.low_of.ensures c.high_of.ensures e.from_low e.to_high e.least e.first in
    found_read c.args.job.now c.args.good_prices.now c.args.i least p _ (c.price_places.ensures.found least f.admitted)
    (place_got p (goods c.args.job.now) least c.from.result c.price_places.ensures.in_range c.from.ensures)

pub returns-clause-in_range : goal.returns-clause-in_range
returns-clause-in_range c =
    filled_in_range (goods c.args.job.now) c.price_places.new.self _ refl refl
    (omega (arith, few_segments c.args.job.now c.args.area.now c.args.i c.requires.of_job c.requires.supplier, c.first_least-least.ensures.to_high))
    c.fill.ensures.goods c.fill.ensures.within c.price_places.ensures.in_range

pub returns-clause-priced : goal.returns-clause-priced
returns-clause-priced c =
    let least = c.first_least-least.result in
    let p = c.price_places.new.self in
    let e = c.first_least-least.ensures in
    let f = first_is c.args.area.now c.args.i c.low_of.result c.high_of.result least p c.low_of.ensures c.high_of.ensures e.from_low e.to_high e.least e.first in
    let got = place_got p (goods c.args.job.now) least c.from.result c.price_places.ensures.in_range c.from.ensures in
    let worth = (c.price_places.ensures.found least f.admitted).best_place.is_worth in
    let cheapest = rw got at c.fill.ensures.cheapest in
    priced_from c.args.job.now c.args.area.now c.args.good_prices.now c.args.i p _ refl refl c.price_places.ensures.found f
    (subst (AreCheapest c.args.job.now c.args.good_prices.now c.args.i least (slice_index c.fill.new.units)) (sym worth) cheapest)

pub returns-clause-value : goal.returns-clause-value
returns-clause-value c =
    let least = c.first_least-least.result in
    let p = c.price_places.new.self in
    worth_got p (goods c.args.job.now) least c.from-2.result c.price_places.ensures.in_range c.from-2.ensures
    ∙ least_value c.args.job.now c.args.area.now c.args.good_prices.now c.args.i p _ refl refl (c.requires.of_job.ranges c.args.i c.requires.supplier) (returns-clause-priced c)

pub returns-clause-value_range : goal.returns-clause-value_range
returns-clause-value_range c =
    let p = c.price_places.new.self in
    let got = worth_got p (goods c.args.job.now) c.first_least-least.result c.from-2.result c.price_places.ensures.in_range c.from-2.ensures in
    rw got (worth_range_of p (goods c.args.job.now) c.first_least-least.result c.price_places.ensures.in_range)
