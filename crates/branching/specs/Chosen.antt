-- The split that the rule chooses for a box: at the supplier with the greatest gap, beside the pick of its total.
use Rattle.std.specs.Prelude.{ℕ, ◌≡◌, ◌-◌, ◌<◌, ◌≤◌, nat_le, if◌then◌else◌, Option, None, Some}
use Rattle.tqd_instance.specs.declared.job.Job.{Job}
use Rattle.tqd_instance.specs.Job.{suppliers, pick}
use Rattle.tqd_instance.specs.Purchase.{Purchase, total}
use Rattle.interval_box.specs.declared.boxes.IntervalBox.{IntervalBox}
use Rattle.interval_box.specs.Ranges.{low_of, high_of}
use Rattle.branching.specs.Gap.{gap}

-- a supplier whose range has more than one number
pub record IsWide (job : Job) (area : IntervalBox) (i : ℕ) : Type 0 where
  pub supplier : i < suppliers job
  pub wide : low_of area i < high_of area i

-- the first of the suppliers with the greatest gap, among those whose ranges have more than one number
pub record HasGreatestGap (job : Job) (area : IntervalBox) (x : Purchase) (i : ℕ) : Type 0 where
  pub itself : IsWide job area i
  pub greatest : (k : ℕ) → IsWide job area k → gap job area x k ≤ gap job area x i
  pub first : (k : ℕ) → k < i → IsWide job area k → gap job area x k < gap job area x i

-- the number at which a range that ends at `last` is split: 0 where the total has no pick; else the pick where it is
-- below the last number, and else the number before it
abbrev pub number_by : ℕ → Option ℕ → ℕ
number_by last None = 0
number_by last (Some p) = if nat_le last p then p - 1 else p

-- the split that the rule chooses
pub record IsChosen (job : Job) (area : IntervalBox) (x : Purchase) (i s : ℕ) : Type 0 where
  pub supplier : HasGreatestGap job area x i
  pub number : s ≡ number_by (high_of area i) (pick job i (total job x i))
