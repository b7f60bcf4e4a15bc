use Rattle.std.proofs.Common.{◌≡◌, ◌<◌, ◌∙◌, ap, length, arith, sym, subst}
use Rattle.std.specs.List.{All}
use Rattle.std.proofs.lemmas.Result.{IfOk-weaker}
use Rattle.tqd_instance.specs.Job.{suppliers}
use Rattle.bound_tree.specs.Prices.{Fits}
use Rattle.lagrangian.specs.Priced.{IsGoodPrice}
use Rattle.lagrangian.specs.PricingState.{PricingState}
use Rattle.lagrangian.specs.Pricing.{all_places}
use Rattle.lagrangian.proofs.Finding.{few_segments}
use Rattle.lagrangian.proofs.Places.{all_places-zero}
use Rattle.lagrangian.proofs.Values.{supplier_read, kept_in_range, row_is, row_fits, places_more}
use Rattle.lagrangian.proofs.pricing.Pricing.row.Goals as goal

pub loop-i-init : goal.loop-i-init
loop-i-init c = c.in_ok-places.ensures.items ∙ sym (all_places-zero c.args.area.now c.args.self.now)

pub push_places-requires-clause-few : goal.push_places-requires-clause-few
push_places-requires-clause-few c = few_segments c.args.job.now c.args.area.now c.loop-i.i c.requires.of_job (omega arith)

pub loop-i-preserved : goal.loop-i-preserved
loop-i-preserved c =
    let same = ap (λ (s : PricingState). s.suppliers) c.self.view_is in
    let below : c.loop-i.i < length c.args.self.now.suppliers = omega (arith, c.requires.made.supplier_count) in
    places_more c.args.area.now c.args.self.now c.loop-i.i c.loop-i.places.items c.push_places.new.places.items c.index.result.now
    (supplier_read c.args.self.now c.loop-i.i c.self.inside.found.items c.index.result.now same below c.index.ensures) c.loop-i.invariant c.in_ok-push_places.ensures

pub build-requires : goal.build-requires
build-requires c =
    let all : c.loop-i.i ≡ suppliers c.args.job.now = omega arith in
    let prices = c.deref.ensures.value ∙ ap (λ (s : PricingState). s.goods) c.self.view_is in
    let places = c.deref-2.ensures.value ∙ c.loop-i.invariant ∙ ap (all_places c.args.area.now c.args.self.now) all in
    let r = kept_in_range c.args.job.now c.args.self.now c.self.inside.good_prices.items c.self.inside.found.items (ap (λ (s : PricingState). s.goods) c.self.view_is)
    (ap (λ (s : PricingState). s.suppliers) c.self.view_is) c.requires.made c.self.invariant.found_range in
    let good = subst (All IsGoodPrice) (ap (λ (s : PricingState). s.goods) c.self.view_is) c.self.invariant.good_range in
    subst (Fits c.args.job.now c.args.area.now) (sym (row_is c.args.job.now c.args.area.now c.args.self.now c.deref.result.now c.deref-2.result.now prices places))
    (row_fits c.args.job.now c.args.area.now c.args.self.now c.requires.of_job c.requires.made good r)

pub returns : goal.returns
returns c =
    let all : c.loop-i.i ≡ suppliers c.args.job.now = omega arith in
    let prices = c.deref.ensures.value ∙ ap (λ (s : PricingState). s.goods) c.self.view_is in
    let places = c.deref-2.ensures.value ∙ c.loop-i.invariant ∙ ap (all_places c.args.area.now c.args.self.now) all in
    IfOk-weaker c.build.result _ _ (λ row h. h ∙ row_is c.args.job.now c.args.area.now c.args.self.now c.deref.result.now c.deref-2.result.now prices places) c.build.ensures
