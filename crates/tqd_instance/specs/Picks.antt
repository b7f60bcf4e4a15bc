-- What the segment that a total selects is.
use Rattle.std.specs.Prelude.{ℕ, ◌≡◌, ◌≤◌, ◌↔◌, Some, None}
use Rattle.tqd_instance.specs.declared.job.Job.{Job}
use Rattle.tqd_instance.specs.Job.{segments, low, high, pick}

-- a total lies in a segment
pub record LiesIn (job : Job) (i j total : ℕ) : Type 0 where
  pub segment : j ≤ segments job i
  pub from_low : low job i j ≤ total
  pub to_high : total ≤ high job i j

-- the total selects the segment in which it lies, which is one alone, and none exactly where it lies in none
pub record PicksWhereItLies (job : Job) (i total : ℕ) : Type 0 where
  pub some : (j : ℕ) → (pick job i total ≡ Some j) ↔ LiesIn job i j total
  pub none : (pick job i total ≡ None) ↔ ((j : ℕ) → LiesIn job i j total → ⊥)
