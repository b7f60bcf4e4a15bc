use Rattle.std.proofs.Common.{◌≡◌, ◌<◌, length, sum, subst, sym, ◌∙◌, arith}
use Rattle.std.proofs.lemmas.List.{length-set, get_or_read}
use Rattle.tqd_instance.specs.Job.{suppliers}
use Rattle.interval_box.specs.Ranges.{low_of, high_of}
use Rattle.lagrangian.specs.declared.weights.TheConstants.{WHOLE}
use Rattle.lagrangian.specs.PricingState.{units}
use Rattle.lagrangian.specs.Columns.{Mixture, no_mixture, AreWithin, AreCapsOf, AreSegmentsIn, IsSegmentIn, HasPlaces}
use Rattle.lagrangian.proofs.Bundles.{AreWithin-sold, each_set, each_more}
use Rattle.lagrangian.proofs.bundle.Bundle.add.Goals as goal

pub add-requires : goal.add-requires
add-requires c =
    let made = c.loop-i.invariant.made in
    let job = c.args.job.now in
    let i = c.loop-i.i in
    let list = c.loop-i.self.suppliers.items in
    let was = c.index_mut.result.now in
    let below : i < length list = omega (arith, made.count) in
    let is = get_or_read list i was below c.index_mut.ensures.value no_mixture in
    let of : AreCapsOf job i was.caps = subst (λ (m : Mixture). AreCapsOf job i m.caps) (sym is) (made.caps i below) in
    let sold = (c.requires.priced.each_supplier i (omega arith)).cheapest.within in
    subst (AreWithin was.caps) (sym c.deref-in-loop-i.ensures.value)
    (AreWithin-sold job i was.caps c.copy_units.new.out.items (units c.args.pricing.now i) of
    (c.copy_units.ensures.width ∙ made.width) c.copy_units.ensures.each sold)

pub loop-i-preserved : goal.loop-i-preserved
loop-i-preserved c =
    let made = c.loop-i.invariant.made in
    let job = c.args.job.now in
    let area = c.args.area.now in
    let i = c.loop-i.i in
    let list = c.loop-i.self.suppliers.items in
    let was = c.index_mut.result.now in
    let new = c.add.new.self in
    let below : i < length list = omega (arith, made.count) in
    let is = get_or_read list i was below c.index_mut.ensures.value no_mixture in
    let of : AreCapsOf job i new.caps = subst (AreCapsOf job i) (sym c.add.ensures.caps) (subst (λ (m : Mixture). AreCapsOf job i m.caps) (sym is) (made.caps i below)) in
    let first = (c.requires.priced.each_supplier i (omega arith)).first_least.admitted in
    let before : AreSegmentsIn (low_of area i) (high_of area i) was =
    subst (AreSegmentsIn (low_of area i) (high_of area i)) (sym is) (c.loop-i.invariant.inside i (omega arith)) in
    let segment : IsSegmentIn (low_of area i) (high_of area i) c.least-segment.result =
    record { from_low = omega (arith, first.from_low, c.least-segment.ensures.value); to_high = omega (arith, first.to_high, c.least-segment.ensures.value) } in
    record {
      made = record {
        count = length-set list i new ∙ made.count;
        caps = λ k l. each_set (λ j m. AreCapsOf job j m.caps) (length list) list i new below made.caps of k (omega (arith, length-set list i new));
        width = c.copy_units.ensures.width ∙ made.width;
      };
      inside = each_set (λ j m. AreSegmentsIn (low_of area j) (high_of area j) m) (suppliers job) list i new below c.loop-i.invariant.inside
          (c.add.ensures.inside (low_of area i) (high_of area i) before segment);
      places = each_more (λ j m. HasPlaces m) list i new below c.loop-i.invariant.places c.add.ensures.places;
      whole = each_more (λ j m. sum m.weights ≡ WHOLE) list i new below c.loop-i.invariant.whole c.add.ensures.whole;
    }
