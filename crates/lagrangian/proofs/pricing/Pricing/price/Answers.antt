use Rattle.std.proofs.Common.{ℕ, ◌≡◌, ◌∙◌, ap, length, arith, sym, subst}
use Rattle.std.specs.List.{All}
use Rattle.std.specs.Vec.{with_items}
use Rattle.std.proofs.lemmas.Int.{ints}
use Rattle.std.proofs.lemmas.List.{with_items_is}
use Rattle.tqd_instance.specs.Job.{goods}
use Rattle.lagrangian.specs.Priced.{IsGoodPrice, IsInRange}
use Rattle.lagrangian.proofs.Values.{priced_for}
use Rattle.lagrangian.proofs.pricing.Pricing.price.Goals as goal

pub invariant_of-self : goal.invariant_of-self
invariant_of-self c =
    let same = c.copy_from_slice.ensures.items in
    let width : length c.copy_from_slice.new.self.items ≡ goods c.args.job.now = ap length same ∙ c.requires.prices.count in
    let found = with_items_is c.self.inside.found c.price_suppliers-paid.new.found (omega (arith, c.price_suppliers-paid.auto.found, c.deref_mut.ensures.len)) in
    let offers = with_items_is c.self.inside.offers c.price_suppliers-paid.new.offers (omega (arith, c.price_suppliers-paid.auto.offers, c.deref_mut-2.ensures.len)) in
    record {
      good_range = subst (All IsGoodPrice) (sym same) c.requires.prices.in_range;
      found_range = subst (λ (w : ℕ). All (IsInRange w) (with_items c.self.inside.found c.price_suppliers-paid.new.found).items) (sym width) (subst (All (IsInRange (goods c.args.job.now))) (sym found) c.price_suppliers-paid.ensures.in_range);
      not_less = omega (arith, ints);
      not_more = omega (arith, ints);
      room = ap length offers ∙ c.price_suppliers-paid.ensures.room ∙ sym width;
    }

pub returns : goal.returns
returns c =
    let same = c.copy_from_slice.ensures.items in
    let e = c.price_suppliers-paid.ensures in
    let found = with_items_is c.self.inside.found c.price_suppliers-paid.new.found (omega (arith, c.price_suppliers-paid.auto.found, c.deref_mut.ensures.len)) in
    priced_for c.args.job.now c.args.area.now c.args.goods.now _ c.price_suppliers-paid.new.found c.requires.of_job c.requires.prices same found e.count e.in_range e.priced
    (omega (arith, ints))
