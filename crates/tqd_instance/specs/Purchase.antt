-- A purchase, and what follows from it alone.
use Rattle.std.specs.Prelude.{ℕ, ◌==◌, if◌then◌else◌}
use Rattle.tqd_instance.specs.declared.job.Job.{Job}
use Rattle.tqd_base.specs.Sum.{sum_to}
use Rattle.tqd_instance.specs.Job.{goods, suppliers}

-- a purchase: the units x i k that are bought from supplier i of good k. Only the places of the job's size count
abbrev pub Purchase : Type 0
Purchase = ℕ → ℕ → ℕ

-- the units bought from a supplier, over all goods
unfoldable pub total : Job → Purchase → ℕ → ℕ
total job x i = sum_to (goods job) (x i)

-- the units bought of a good, over all suppliers
unfoldable pub bought : Job → Purchase → ℕ → ℕ
bought job x k = sum_to (suppliers job) (λ i. x i k)

-- 1 where anything is bought from a supplier, else 0
unfoldable pub wins : Job → Purchase → ℕ → ℕ
wins job x i = if total job x i == 0 then 0 else 1

-- how many suppliers are bought from
unfoldable pub winners : Job → Purchase → ℕ
winners job x = sum_to (suppliers job) (wins job x)
