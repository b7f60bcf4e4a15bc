use Rattle.std.proofs.Common.{◌≡◌, ℕ, ◌+◌, ◌-◌, ◌<◌, ◌≤◌, slice_index, ap, sym, ◌∙◌, arith}
use Rattle.std.proofs.lemmas.List.{get_or-replicate}
use Rattle.tqd_instance.specs.declared.job.Job.{Job}
use Rattle.tqd_instance.specs.Job.{suppliers, price}
use Rattle.tqd_instance.proofs.Jobs.{job_in_range}
use Rattle.interval_box.specs.declared.boxes.IntervalBox.{IntervalBox}
use Rattle.interval_box.specs.Ranges.{high_of, IsRangeOf}
use Rattle.bound_tree.proofs.SegmentValues.{first_is}
use Rattle.box_bound.specs.Relaxed.{lowest_from}
use Rattle.box_bound.proofs.Ranges.{supplier_few}
use Rattle.box_bound.proofs.LeastPrices.{lowest_from-zero, lowest_from-next, least_price-none, least_price-some}
use Rattle.box_bound.proofs.least.find_least_prices.Goals as goal

pub high_of-high-requires : goal.high_of-high-requires
high_of-high-requires c = supplier_few c.args.job.now c.args.i c.requires.supplier

pub low_of-requires : goal.low_of-requires
low_of-requires c = supplier_few c.args.job.now c.args.i c.requires.supplier

pub returns-then-high-eq0-clause-each : goal.returns-then-high-eq0-clause-each
returns-then-high-eq0-clause-each c = λ k small.
    ap (λ xs. slice_index xs k) (c.fill.ensures.after (λ y e. e))
    ∙ get_or-replicate _ k 0 0 (omega (arith, c.requires.goods))
    ∙ sym (least_price-none c.args.job.now c.args.area.now c.args.i k (omega (arith, c.if-high-eq0.true, c.high_of-high.ensures)))

few : (job : Job) (area : IntervalBox) (i high : ℕ) → i < suppliers job → IsRangeOf job area i → high ≡ high_of area i → high ≤ 16
few job area i high supplier range is = omega (arith, ((job_in_range job).each_supplier i supplier).few, range.within)

pub overflow_step-j : goal.overflow_step-j
overflow_step-j c =
    let most = few c.args.job.now c.args.area.now c.args.i c.high_of-high.result c.requires.supplier c.requires.range c.high_of-high.ensures in
    omega (arith, c.requires.range.ordered, c.high_of-high.ensures, c.low_of.ensures, c.max-first.ensures)

pub overflow_add-j-end : goal.overflow_add-j-end
overflow_add-j-end c =
    let most = few c.args.job.now c.args.area.now c.args.i c.high_of-high.result c.requires.supplier c.requires.range c.high_of-high.ensures in
    omega arith

pub loop-j-init : goal.loop-j-init
loop-j-init c =
    let first = c.max-first.result in
    let none : 0 ≡ first + 1 - (first + 1) = omega arith in
    record {
      len = omega (arith, c.copy_from_slice.ensures.len, c.requires.goods);
      each = λ k small.
          (let f = λ (j : ℕ). price c.args.job.now c.args.i j k in
          ap (λ xs. slice_index xs k) c.copy_from_slice.ensures.after
          ∙ c.prices.ensures.value k
          ∙ sym (lowest_from-zero first f)
          ∙ ap (λ n. lowest_from first n f) none);
    }

pub loop-j-preserved : goal.loop-j-preserved
loop-j-preserved c =
    let inv = c.loop-j.invariant in
    let first = c.max-first.result in
    let j = c.loop-j.j in
    let at : j ≡ first + (j + 1 - (first + 1)) = omega arith in
    record {
      len = omega (arith, c.lower.ensures.len, inv.len);
      each = λ k small.
          (let f = λ (j : ℕ). price c.args.job.now c.args.i j k in
          lowest_from-next first (j - (first + 1)) (j + 1 - (first + 1)) f (slice_index c.loop-j.least k) (slice_index c.prices-in-loop-j.result.now k) (slice_index c.lower.new.least k)
          (inv.each k small) (c.prices-in-loop-j.ensures.value k ∙ ap f at) (omega arith) (c.lower.ensures.each k (omega (arith, inv.len))));
    }

pub returns-clause-each : goal.returns-clause-each
returns-clause-each c = λ k small.
    (let first = c.max-first.result in
    let n = c.loop-j.j - (first + 1) in
    let f = λ (j : ℕ). price c.args.job.now c.args.i j k in
    let is = first_is c.args.area.now c.args.i c.low_of.result first c.low_of.ensures c.max-first.ensures in
    let all : n ≡ high_of c.args.area.now c.args.i - first = omega (arith, c.requires.range.ordered, c.low_of.ensures, c.high_of-high.ensures, c.max-first.ensures) in
    c.loop-j.invariant.each k small
    ∙ ap (λ m. lowest_from first m f) all
    ∙ ap (λ m. lowest_from m (high_of c.args.area.now c.args.i - m) f) is
    ∙ sym (least_price-some c.args.job.now c.args.area.now c.args.i k (omega (arith, c.high_of-high.ensures))))
