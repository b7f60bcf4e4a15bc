-- A box is split into two halves at a number in the range of a supplier.
use Rattle.std.specs.Prelude.{ℕ, ◌≡◌, ◌+◌, ◌<◌, ◌≤◌, ◌⊎◌, ◌↔◌, slice_set}
use Rattle.tqd_instance.specs.declared.job.Job.{Job}
use Rattle.tqd_instance.specs.Purchase.{Purchase}
use Rattle.interval_box.specs.declared.boxes.IntervalBox.{IntervalBox}
use Rattle.interval_box.specs.Ranges.{low_of, high_of, IsBoxOf, IsIn}
use Rattle.interval_box.specs.Size.{size}

-- a proper split: each half has a number of the supplier's range
pub record IsProper (area : IntervalBox) (i s : ℕ) : Type 0 where
  pub from_low : low_of area i ≤ s
  pub below_high : s < high_of area i

-- the supplier's range up to s, all others as they are
unfoldable pub low_half : IntervalBox → ℕ → ℕ → IntervalBox
low_half area i s = record area { highs = slice_set area.highs i s }

-- the supplier's range from s + 1, all others as they are
unfoldable pub high_half : IntervalBox → ℕ → ℕ → IntervalBox
high_half area i s = record area { lows = slice_set area.lows i (s + 1) }

-- a purchase in the box is in exactly one of the halves, and a purchase in a half is in the box
pub record IsInOneHalf (job : Job) (area : IntervalBox) (i s : ℕ) (x : Purchase) : Type 0 where
  pub either : IsIn job area x ↔ (IsIn job (low_half area i s) x ⊎ IsIn job (high_half area i s) x)
  pub not_both : IsIn job (low_half area i s) x → IsIn job (high_half area i s) x → ⊥

-- what holds of the halves of a proper split of a box of a job
pub record Splits (job : Job) (area : IntervalBox) (i s : ℕ) : Type 0 where
  pub low_is_box : IsBoxOf job (low_half area i s)
  pub high_is_box : IsBoxOf job (high_half area i s)
  pub cover : (x : Purchase) → IsInOneHalf job area i s x
  pub sizes : size job (low_half area i s) + size job (high_half area i s) ≡ size job area
