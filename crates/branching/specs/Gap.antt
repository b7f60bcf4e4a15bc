-- How much more the goods of a supplier cost than at the least prices of its range.
use Rattle.std.specs.Prelude.{ℕ, suc, zero, ◌+◌, ◌-◌, ◌*◌, min, max, Option, unwrap_or}
use Rattle.tqd_base.specs.Sum.{sum_to}
use Rattle.tqd_instance.specs.declared.job.Job.{Job}
use Rattle.tqd_instance.specs.Job.{goods, price, pick}
use Rattle.tqd_instance.specs.Purchase.{Purchase, total}
use Rattle.interval_box.specs.declared.boxes.IntervalBox.{IntervalBox}
use Rattle.interval_box.specs.Ranges.{low_of, high_of}

-- the least of f a, f (a + 1), .., f (a + n)
unfoldable pub least_from : ℕ → ℕ → (ℕ → ℕ) → ℕ
least_from a zero f = f a
least_from a (suc n) f = min (least_from a n f) (f (a + suc n))

-- the first segment of a range in which something is bought
unfoldable pub first_of : IntervalBox → ℕ → ℕ
first_of area i = max 1 (low_of area i)

-- the least price of a good over the segments of a supplier's range, but segment 0
unfoldable pub relaxed_price : Job → IntervalBox → ℕ → ℕ → ℕ
relaxed_price job area i k = least_from (first_of area i) (high_of area i - first_of area i) (λ j. price job i j k)

-- the segment whose prices are really paid: the pick of the total, and segment 1 where the total has no pick
unfoldable pub paid_segment : Job → Purchase → ℕ → ℕ
paid_segment job x i = unwrap_or (pick job i (total job x i)) 1

-- the units of each good times its real price, less the units times its relaxed price. Where the total is 0, so is
-- every term; else the segment paid is in the range, so that nothing is cut off below 0
unfoldable pub gap : Job → IntervalBox → Purchase → ℕ → ℕ
gap job area x i =
    let paid = paid_segment job x i in
    sum_to (goods job) (λ k. x i k * price job i paid k - x i k * relaxed_price job area i k)
