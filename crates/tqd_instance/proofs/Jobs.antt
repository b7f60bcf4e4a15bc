-- Every job is in range.
use Rattle.std.proofs.Common.{ℕ, suc, zero, ◌≡◌, ◌+◌, ◌<◌, ◌≤◌, length, slice_index, arith}
use Rattle.tqd_base.specs.declared.limits.TheConstants.{PRICE_MAX}
use Rattle.tqd_instance.specs.declared.job.Job.{Job}
use Rattle.tqd_instance.specs.JobFacts.{IsNothing, IsSegment, IsSupplier}
use Rattle.tqd_instance.specs.Job.{goods, suppliers, need, most, supplier_at, segment_at, stock, segments, low, high, price, fee, least_winners, most_winners}
use Rattle.tqd_instance.specs.InRange.{IsGoodInRange, IsSegmentInRange, IsSupplierInRange, IsInRange}

-- what the facts say of a supplier and of a segment
pub supplier_is : (job : Job) (i : ℕ) → i < suppliers job → IsSupplier (goods job) (supplier_at job i)
unfolding suppliers supplier_at goods
supplier_is job i h = job.facts.offers i h

pub segment_is : (job : Job) (i j : ℕ) → i < suppliers job → 1 ≤ j → j ≤ segments job i → IsSegment (goods job) (segment_at job i j)
unfolding segments segment_at
segment_is job i j h some within =
    let s = supplier_is job i h in
    s.segments j some (omega (arith, s.some))

good_in_range : (job : Job) (k : ℕ) → k < goods job → IsGoodInRange job k
unfolding goods need most
good_in_range job k h =
    let g = job.facts.goods k h in
    record { some = g.some; within = g.within; ordered = g.ordered; bounded = g.bounded }

segment_in_range : (job : Job) (i j : ℕ) → i < suppliers job → 1 ≤ j → j ≤ segments job i → IsSegmentInRange job i j
unfolding low high price
segment_in_range job i j h some within =
    let s = segment_is job i j h some within in
    record { from_one = s.from_one; ordered = s.ordered; within = s.within; prices = s.prices }

pub nothing_is : (job : Job) (i : ℕ) → i < suppliers job → IsNothing (goods job) (segment_at job i 0)
unfolding segment_at
nothing_is job i h = (supplier_is job i h).first

contiguous_is : (job : Job) (i : ℕ) → i < suppliers job → (j : ℕ) → 1 ≤ j → j < segments job i → low job i (j + 1) ≡ high job i j + 1
unfolding low high segments segment_at
contiguous_is job i h j some below = (supplier_is job i h).contiguous j some (omega arith)

few_is : (job : Job) (i : ℕ) → i < suppliers job → segments job i ≤ 16
unfolding segments
few_is job i h = omega (arith, (supplier_is job i h).few)

supplier_in_range : (job : Job) (i : ℕ) → i < suppliers job → IsSupplierInRange job i
unfolding fee stock low high price
supplier_in_range job i h =
    let s = supplier_is job i h in
    let n = nothing_is job i h in
    record {
      fee_within = s.fee;
      stock_within = s.stocks;
      few = few_is job i h;
      nothing_low = n.low;
      nothing_high = n.high;
      nothing_price = n.prices;
      each_segment = λ j some within. segment_in_range job i j h some within;
      contiguous = contiguous_is job i h;
    }

pub job_in_range : (job : Job) → IsInRange job
unfolding goods suppliers least_winners most_winners
job_in_range job =
    record {
      few_goods = job.facts.few_goods;
      few_suppliers = job.facts.few_suppliers;
      each_good = good_in_range job;
      each_supplier = supplier_in_range job;
      winners_ordered = job.facts.winners_ordered;
      few_winners = job.facts.few_winners;
    }

-- segment 0 too has a price for each good
pub prices_are : (job : Job) (i j : ℕ) → i < suppliers job → j ≤ segments job i
    → (length (segment_at job i j).prices ≡ goods job) × ((k : ℕ) → slice_index (segment_at job i j).prices k ≤ PRICE_MAX)
prices_are job i zero h within =
    let n = nothing_is job i h in
    (n.width, λ k. omega (arith, n.prices k))
prices_are job i (suc j) h within =
    let s = segment_is job i (suc j) h (omega arith) within in
    (s.width, s.prices)
