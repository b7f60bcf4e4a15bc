-- The least costs of the jobs of a list, and of a job with each greatest number of winners.
use Rattle.std.specs.Prelude.{ℕ, ◌≡◌, ◌+◌, ◌-◌, ◌<◌, List, length, slice_index_or, Option, None}
use Rattle.tqd_instance.specs.declared.job.Job.{Job}
use Rattle.tqd_instance.specs.Job.{suppliers, least_winners}
use Rattle.tqd_instance.specs.Change.{HasMostWinners}
use Rattle.tqd_instance.specs.Optimum.{IsOptimum}

-- the least cost of the job at this place of a list
abbrev pub IsCostOf : List Job → ℕ → Option ℕ → Type 0
IsCostOf jobs at cost = (d : Job) → IsOptimum (slice_index_or jobs at d) cost

-- costs, one for each job of a list, in order
pub record AreCosts (jobs : List Job) (costs : List (Option ℕ)) : Type 0 where
  pub as_many : length costs ≡ length jobs
  pub each : (at : ℕ) → at < length jobs → IsCostOf jobs at (slice_index_or costs at None)

-- the greatest numbers of winners from the least number up to the number of suppliers, or the least number alone
unfoldable pub table_size : Job → ℕ
table_size job = suppliers job - least_winners job + 1

-- the least cost of the job whose greatest number of winners is so far above the least number
abbrev pub IsTableCost : Job → ℕ → Option ℕ → Type 0
IsTableCost job at cost = (b : Job) × (HasMostWinners (least_winners job + at) job b × IsOptimum b cost)

-- the winner table of a job
pub record IsWinnerTable (job : Job) (costs : List (Option ℕ)) : Type 0 where
  pub size : length costs ≡ table_size job
  pub each : (at : ℕ) → at < table_size job → IsTableCost job at (slice_index_or costs at None)
