-- The single box of a pick for each supplier.
use Rattle.std.specs.Prelude.{ℕ, ◌≡◌, ◌<◌, List, slice_index}
use Rattle.tqd_instance.specs.declared.job.Job.{Job}
use Rattle.tqd_instance.specs.Job.{suppliers}
use Rattle.interval_box.specs.declared.boxes.IntervalBox.{IntervalBox}
use Rattle.interval_box.specs.Ranges.{low_of, high_of, IsBoxOf}

-- the range of a supplier has this number alone
pub record IsAlone (area : IntervalBox) (i j : ℕ) : Type 0 where
  pub low : low_of area i ≡ j
  pub high : high_of area i ≡ j

-- a box of the job in which each supplier's range is its pick
pub record IsOfPicks (job : Job) (picks : List ℕ) (area : IntervalBox) : Type 0 where
  pub of_job : IsBoxOf job area
  pub alone : (i : ℕ) → i < suppliers job → IsAlone area i (slice_index picks i)
