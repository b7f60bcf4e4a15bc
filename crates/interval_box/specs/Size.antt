-- The size of a box: how many ways there are to choose one number from each range.
use Rattle.std.specs.Prelude.{ℕ, suc, zero, ◌+◌, ◌-◌, ◌*◌}
use Rattle.tqd_instance.specs.declared.job.Job.{Job}
use Rattle.tqd_instance.specs.Job.{suppliers}
use Rattle.interval_box.specs.declared.boxes.IntervalBox.{IntervalBox}
use Rattle.interval_box.specs.Ranges.{low_of, high_of}

-- f 0 * f 1 * .. * f (n - 1)
unfoldable pub product_to : ℕ → (ℕ → ℕ) → ℕ
product_to zero f = 1
product_to (suc n) f = product_to n f * f n

-- how many numbers the range of a supplier has
unfoldable pub width : IntervalBox → ℕ → ℕ
width area i = high_of area i + 1 - low_of area i

-- the product of the widths
unfoldable pub size : Job → IntervalBox → ℕ
size job area = product_to (suppliers job) (width area)
