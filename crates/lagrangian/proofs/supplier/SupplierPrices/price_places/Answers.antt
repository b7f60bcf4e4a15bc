use Rattle.std.proofs.Common.{◌≤◌, ◌∙◌, ap₂, refl, arith, set}
use Rattle.std.proofs.lemmas.Int.{to_z-of_z}
use mir.Syntax.{w64, w128}
use Rattle.tqd_instance.specs.Job.{goods}
use Rattle.interval_box.specs.Ranges.{low_of}
use Rattle.bound_tree.proofs.PriceReads.{price_fits}
use Rattle.lagrangian.proofs.PriceReads.{worth_fits}
use Rattle.lagrangian.proofs.Finding.{set_in_range, found_next, few_suppliers, few_segments}
use Rattle.lagrangian.proofs.supplier.SupplierPrices.price_places.Goals as goal

pub low_of-j-requires : goal.low_of-j-requires
low_of-j-requires c = few_suppliers c.args.job.now c.args.i c.requires.supplier

pub high_of-j-end-requires : goal.high_of-j-end-requires
high_of-j-end-requires c = few_suppliers c.args.job.now c.args.i c.requires.supplier

pub overflow_add-j-end : goal.overflow_add-j-end
overflow_add-j-end c = omega (arith, few_segments c.args.job.now c.args.area.now c.args.i c.requires.of_job c.requires.supplier)

pub bounds-self-from : goal.bounds-self-from
bounds-self-from c = omega (arith, few_segments c.args.job.now c.args.area.now c.args.i c.requires.of_job c.requires.supplier)

pub bounds-self-from-in-loop-j : goal.bounds-self-from-in-loop-j
bounds-self-from-in-loop-j c = omega (arith, few_segments c.args.job.now c.args.area.now c.args.i c.requires.of_job c.requires.supplier)

pub loop-j-preserved : goal.loop-j-preserved
loop-j-preserved c =
    let inv = c.loop-j.invariant in
    let found = c.best_place-place.ensures.found in
    let price = found.best_place.in_range in
    let place = to_z-of_z w64 c.best_place-place.result.0 (price_fits c.best_place-place.result.0 price) in
    let worth = to_z-of_z w128 c.best_place-place.result.1 (worth_fits c.best_place-place.result.1 found.worth_range) in
    let few : c.loop-j.j ≤ 16 = omega (arith, few_segments c.args.job.now c.args.area.now c.args.i c.requires.of_job c.requires.supplier) in
    let a = ap₂ (set c.loop-j.self.places) c.from.ensures place in
    let b = ap₂ (set c.loop-j.self.worths) c.from-in-loop-j.ensures worth in
    record {
      len = c.best_place-place.ensures.len ∙ inv.len;
      in_range = set_in_range (goods c.args.job.now) c.loop-j.self _ c.loop-j.j c.best_place-place.result.0 c.best_place-place.result.1
          (record { places = a; worths = b; least = refl; units = refl }) price found.worth_range inv.in_range;
      found = found_next c.args.job.now c.args.good_prices.now c.args.i (low_of c.args.area.now c.args.i) c.loop-j.j (goods c.args.job.now) c.loop-j.self _
          c.best_place-place.result.0 c.best_place-place.result.1 few inv.in_range (record { places = a; worths = b; least = refl; units = refl }) found inv.found;
    }
