use Rattle.std.proofs.Common.{ℕ, ◌≡◌, ◌+◌, ◌-◌, ◌≤◌, ◌∙◌, ap, sym, arith}
use Rattle.std.specs.Int.{int_min}
use Rattle.std.proofs.lemmas.Int.{ints, clamps}
use Rattle.tqd_instance.proofs.Jobs.{job_in_range}
use Rattle.interval_box.specs.Ranges.{low_of, high_of}
use Rattle.bound_tree.specs.LeastFrom.{least_from}
use Rattle.bound_tree.specs.Prices.{first_of, price_at}
use Rattle.bound_tree.specs.Value.{segment_value}
use Rattle.bound_tree.specs.Asked.{charges_by}
use Rattle.bound_tree.proofs.SignedSums.{least_from-zero}
use Rattle.bound_tree.proofs.SegmentValues.{supplier_value-is, first_is, least_from-next}
use Rattle.bound_tree.proofs.value.supplier_value.Goals as goal

pub low_of-low-requires : goal.low_of-low-requires
low_of-low-requires c = omega (arith, (job_in_range c.args.job.now).few_suppliers)

pub high_of-high-requires : goal.high_of-high-requires
high_of-high-requires c = omega (arith, (job_in_range c.args.job.now).few_suppliers)

pub loop-j-init : goal.loop-j-init
loop-j-init c =
    let low = c.low_of-low.result in
    let first = c.max-first.result in
    let f = λ (j : ℕ). segment_value (charges_by c.args.asked c.args.job.now) c.args.job.now c.args.good_prices.now (price_at c.args.place_prices.now (c.args.at + (j - first))) c.args.i j in
    let none : low + 1 - (low + 1) ≡ 0 = omega arith in
    let place : c.args.at + (low - first) ≡ c.args.at = omega arith in
    let here : c.segment_value-least.result ≡ f low =
    c.segment_value-least.ensures.value
    ∙ ap (λ p. segment_value (charges_by c.args.asked c.args.job.now) c.args.job.now c.args.good_prices.now (price_at c.args.place_prices.now p) c.args.i low) (sym place) in
    let least : least_from low (low + 1 - (low + 1)) f ≡ f low = ap (λ n. least_from low n f) none ∙ least_from-zero low f in
    record { is_least = omega (arith, ints); not_less = omega (arith, ints); not_more = omega (arith, ints) }

pub loop-j-preserved : goal.loop-j-preserved
loop-j-preserved c =
    let i = c.loop-j.invariant in
    let low = c.low_of-low.result in
    let first = c.max-first.result in
    let j = c.loop-j.j in
    let f = λ (j : ℕ). segment_value (charges_by c.args.asked c.args.job.now) c.args.job.now c.args.good_prices.now (price_at c.args.place_prices.now (c.args.at + (j - first))) c.args.i j in
    let at : j ≡ low + (j + 1 - (low + 1)) = omega arith in
    let here : c.segment_value-value.result ≡ f (low + (j + 1 - (low + 1))) =
    c.segment_value-value.ensures.value
    ∙ ap (λ p. segment_value (charges_by c.args.asked c.args.job.now) c.args.job.now c.args.good_prices.now (price_at c.args.place_prices.now (c.args.at + p)) c.args.i j) c.from.ensures
    ∙ ap f at in
    let least : c.min-least.result ≡ int_min c.loop-j.least c.segment_value-value.result = omega (arith, ints, clamps) in
    let next : c.min-least.result ≡ least_from low (j + 1 - (low + 1)) f =
    least_from-next low (j - (low + 1)) (j + 1 - (low + 1)) f c.loop-j.least c.segment_value-value.result c.min-least.result (sym c.loop-j.least-is ∙ i.is_least) here (omega arith) least in
    record { is_least = omega (arith, ints); not_less = omega (arith, ints, clamps); not_more = omega (arith, ints, clamps) }

few : (c : goal.After-segment_value-least) → high_of c.args.area.now c.args.i ≤ 16
few c = omega (arith, ((job_in_range c.args.job.now).each_supplier c.args.i c.requires.supplier).few, c.requires.range.within)

pub overflow_step-j : goal.overflow_step-j
overflow_step-j c = omega (arith, few c, c.requires.range.ordered)

pub overflow_add-j-end : goal.overflow_add-j-end
overflow_add-j-end c = omega (arith, few c)

pub returns-clause-value : goal.returns-clause-value
returns-clause-value c =
    let low = c.low_of-low.result in
    let n = c.loop-j.j - (low + 1) in
    let first = first_is c.args.area.now c.args.i low c.max-first.result c.low_of-low.ensures c.max-first.ensures in
    let all : n ≡ high_of c.args.area.now c.args.i - low_of c.args.area.now c.args.i = omega (arith, c.requires.range.ordered) in
    c.loop-j.invariant.is_least
    ∙ ap (λ first. least_from low n
    (λ j. segment_value (charges_by c.args.asked c.args.job.now) c.args.job.now c.args.good_prices.now (price_at c.args.place_prices.now (c.args.at + (j - first))) c.args.i j)) first
    ∙ sym (supplier_value-is (charges_by c.args.asked c.args.job.now) c.args.job.now c.args.area.now c.args.good_prices.now
    (λ j. price_at c.args.place_prices.now (c.args.at + (j - first_of c.args.area.now c.args.i))) c.args.i low n c.low_of-low.ensures all)
