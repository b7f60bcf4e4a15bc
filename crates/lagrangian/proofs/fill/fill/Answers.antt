use Rattle.std.proofs.Common.{◌<◌, ◌≤◌, ◌-◌, arith, take, length-take}
use Rattle.std.proofs.lemmas.Int.{to_z-of_z}
use mir.Syntax.{w64}
use Rattle.std.proofs.lemmas.List.Elements.{All-from_get_or}
use Rattle.tqd_instance.specs.Job.{goods}
use Rattle.tqd_instance.proofs.Jobs.{job_in_range}
use Rattle.bound_tree.specs.Value.{charges_of, segment_value}
use Rattle.bound_tree.proofs.SegmentValues.{segment_value-none}
use Rattle.lagrangian.proofs.Costs.{none_is_cheapest, filled_is_cheapest, cap_within, called_is}
use Rattle.lagrangian.proofs.fill.fill.Goals as goal

pub returns-then-j-eq0-clause-cheapest : goal.returns-then-j-eq0-clause-cheapest
returns-then-j-eq0-clause-cheapest c =
    let none = segment_value-none (charges_of c.args.job.now) c.args.job.now c.args.good_prices.now c.args.place c.args.i c.args.j c.if-j-eq0.true in
    none_is_cheapest c.args.job.now c.args.good_prices.now c.args.i c.args.j _ c.clear.new.units c.requires.supplier c.if-j-eq0.true none
    (λ k below. c.clear.ensures.none k (omega (arith, c.requires.goods)))

pub units_under-below-requires : goal.units_under-below-requires
units_under-below-requires c =
    omega (arith, length-take c.gather-count.result c.gather-count.new.offers, c.gather-count.ensures.few, (job_in_range c.args.job.now).few_goods)

pub overflow_sub-wanted : goal.overflow_sub-wanted
overflow_sub-wanted c =
    let is = rw (to_z-of_z w64 c.args.place c.ranges.place) at c.level_for-level.ensures.value in
    let b = c.requires.found.balances (omega (arith, c.if-j-eq0.false)) c.level_for-level.result is in
    let called = called_is c.args.job.now c.args.good_prices.now c.args.i c.args.j c.level_for-level.result c.units_under-below.result c.low.result c.high.result c.filled-wanted.result
    (take c.gather-count.result c.gather-count.new.offers) c.gather-count.ensures.gathered c.units_under-below.ensures.value c.low.ensures.value c.high.ensures.value c.filled-wanted.ensures in
    omega (arith, called.0, called.1, b.all_below)

pub returns-clause-within : goal.returns-clause-within
returns-clause-within c =
    All-from_get_or (λ n. n ≤ 100000000) c.fill_to.new.units 0
    (λ k below. (let in_goods : k < goods c.args.job.now = omega (arith, c.fill_to.ensures.count) in
    omega (arith, (c.fill_to.ensures.shares k in_goods).within, cap_within c.args.job.now c.args.i k c.requires.supplier)))

pub returns-clause-cheapest : goal.returns-clause-cheapest
returns-clause-cheapest c =
    let some : 1 ≤ c.args.j = omega (arith, c.if-j-eq0.false) in
    let is = rw (to_z-of_z w64 c.args.place c.ranges.place) at c.level_for-level.ensures.value in
    let called = called_is c.args.job.now c.args.good_prices.now c.args.i c.args.j c.level_for-level.result c.units_under-below.result c.low.result c.high.result c.filled-wanted.result
    (take c.gather-count.result c.gather-count.new.offers) c.gather-count.ensures.gathered c.units_under-below.ensures.value c.low.ensures.value c.high.ensures.value c.filled-wanted.ensures in
    filled_is_cheapest c.args.job.now c.args.good_prices.now c.args.i c.args.j c.level_for-level.result (c.filled-wanted.result - c.units_under-below.result) c.args.place
    (segment_value (charges_of c.args.job.now) c.args.job.now c.args.good_prices.now c.args.place c.args.i c.args.j) c.fill_to.new.units
    c.requires.prices c.requires.supplier some c.requires.segment is c.requires.found
    (omega (arith, called.0, called.1)) c.fill_to.ensures
