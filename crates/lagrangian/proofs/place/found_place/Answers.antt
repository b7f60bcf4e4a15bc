use Rattle.std.proofs.Common.{pos, ◌≡◌, ◌+ℤ◌, ◌-ℤ◌, sym, subst, arith, take, length-take}
use Rattle.std.proofs.lemmas.Int.{ints, to_z-of_z}
use Rattle.std.proofs.lemmas.List.Sorted.{length_permutation}
use mir.Syntax.{w64, w128}
use mir.Val.{to_z, of_z}
use Rattle.tqd_instance.specs.Job.{goods}
use Rattle.tqd_instance.proofs.Jobs.{job_in_range}
use Rattle.bound_tree.specs.Value.{cap}
use Rattle.lagrangian.specs.declared.offer.TheConstants.{ZERO}
use Rattle.lagrangian.specs.Priced.{level_of, IsFoundPlace}
use Rattle.lagrangian.proofs.OfferSums.{states_same}
use Rattle.lagrangian.proofs.PriceReads.{worth_fits}
use Rattle.lagrangian.proofs.Worths.{found_at, balanced_of, amount_of}
use Rattle.lagrangian.proofs.place.found_place.Goals as goal

pub balanced_level-level-requires-clause-few : goal.balanced_level-level-requires-clause-few
balanced_level-level-requires-clause-few c =
    omega (arith, length-take c.gather-count.result c.gather-count.new.offers, c.gather-count.ensures.few, (job_in_range c.args.job.now).few_goods)

pub worth_at-worth-requires-clause-few : goal.worth_at-worth-requires-clause-few
worth_at-worth-requires-clause-few c =
    omega (
      arith,
      length-take c.gather-count.result c.gather-count.new.offers,
      c.gather-count.ensures.few,
      (job_in_range c.args.job.now).few_goods,
      length_permutation (take c.gather-count.result c.gather-count.new.offers) c.balanced_level-level.new.offers c.balanced_level-level.ensures.same,
    )

pub returns-clause-found : goal.returns-clause-found
returns-clause-found c =
    let job = c.args.job.now in
    let prices = c.args.good_prices.now in
    let i = c.args.i in
    let j = c.args.j in
    let level = c.balanced_level-level.result in
    let offers = c.balanced_level-level.new.offers in
    let worth = c.worth_at-worth.result in
    let place = to_z w64 (of_z w64 (to_z w64 level -ℤ pos 4000000000000000)) in
    let top = c.balanced_level-level.ensures.level.within in
    let is : pos level ≡ pos ZERO +ℤ place = omega (arith, ints) in
    let states = states_same (goods job) (level_of job prices i j) (cap job i) (take c.gather-count.result c.gather-count.new.offers) offers
    c.balanced_level-level.ensures.same c.gather-count.ensures.gathered in
    let balanced = balanced_of job prices i j level c.low-low.result c.high-high.result offers states c.low-low.ensures.value c.high-high.ensures.value c.balanced_level-level.ensures.level in
    let amount = amount_of job prices i j level c.low-low.result c.high-high.result c.fee.result worth offers states c.low-low.ensures.value c.high-high.ensures.value c.fee.ensures.value c.worth_at-worth.ensures.value in
    let range = c.worth_at-worth.ensures.in_range in
    subst (IsFoundPlace job prices i j place) (sym (to_z-of_z w128 worth (worth_fits worth range)))
    (found_at job prices i j level place worth c.requires.prices c.requires.supplier c.requires.some c.requires.segment is balanced range amount)
