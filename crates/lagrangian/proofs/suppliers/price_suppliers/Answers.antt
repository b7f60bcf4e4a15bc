use Rattle.std.proofs.Common.{◌≡◌, ◌<◌, ◌∙◌, ap, arith, length, length-set}
use Rattle.std.proofs.lemmas.Int.{ints}
use Rattle.std.proofs.lemmas.List.Elements.{All-set}
use Rattle.tqd_instance.specs.Job.{goods, suppliers}
use Rattle.lagrangian.specs.Priced.{IsInRange}
use Rattle.lagrangian.proofs.PricedTo.{paid_to, paid_to-is, paid_to-next, priced_next}
use Rattle.lagrangian.proofs.suppliers.price_suppliers.Goals as goal

pub loop-i-init : goal.loop-i-init
loop-i-init c = record {
  room = c.requires.room;
  count = c.requires.count;
  in_range = c.requires.in_range;
  priced = λ i below. absurd (omega arith);
  is_sum = omega (arith, ints, paid_to-is c.args.job.now c.args.area.now c.args.good_prices.now c.args.found.now 0);
  not_less = omega (arith, ints);
  not_more = omega (arith, ints);
}

pub loop-i-preserved : goal.loop-i-preserved
loop-i-preserved c =
    let inv = c.loop-i.invariant in
    let i = c.loop-i.i in
    let p = c.price-paid.new.self in
    let e = c.price-paid.ensures in
    let range = e.value_range in
    let below : i < length c.loop-i.found = omega (arith, inv.count) in
    let next = paid_to-next c.args.job.now c.args.area.now c.args.good_prices.now c.loop-i.found i p below in
    record {
      room = e.len ∙ inv.room;
      count = length-set c.loop-i.found i p ∙ inv.count;
      in_range = All-set (IsInRange (goods c.args.job.now)) c.loop-i.found i p e.in_range inv.in_range;
      priced = priced_next c.args.job.now c.args.area.now c.args.good_prices.now c.loop-i.found i p below e.priced inv.priced;
      is_sum = omega (arith, ints, range.not_less, range.not_more, e.value);
      not_less = omega (arith, ints, range.not_less, range.not_more);
      not_more = omega (arith, ints, range.not_less, range.not_more);
    }

pub returns-clause-value : goal.returns-clause-value
returns-clause-value c =
    let all : c.loop-i.i ≡ suppliers c.args.job.now = omega arith in
    c.loop-i.invariant.is_sum
    ∙ ap (paid_to c.args.job.now c.args.area.now c.args.good_prices.now c.loop-i.found) all
    ∙ paid_to-is c.args.job.now c.args.area.now c.args.good_prices.now c.loop-i.found (suppliers c.args.job.now)
