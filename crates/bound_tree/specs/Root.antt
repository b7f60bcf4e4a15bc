-- The root of a job as a value: the box in which each range is whole.
use Rattle.std.specs.Prelude.{ℕ, suc, zero, List, [], ◌∷◌, ◌++◌, replicate, if◌then◌else◌, nat_lt}
use Rattle.tqd_instance.specs.declared.job.Job.{Job}
use Rattle.tqd_instance.specs.Job.{suppliers, segments}
use Rattle.tqd_base.specs.declared.limits.TheConstants.{SUPPLIERS_MAX}
use Rattle.interval_box.specs.declared.boxes.IntervalBox.{IntervalBox}

-- f 0, f 1, .. f (n - 1)
unfoldable pub values_to : ℕ → (ℕ → ℕ) → List ℕ
values_to zero f = []
values_to (suc n) f = values_to n f ++ f n ∷ []

-- the last segment of a supplier; a place that no supplier has holds 0
unfoldable pub last_segment : Job → ℕ → ℕ
last_segment job i = if nat_lt i (suppliers job) then segments job i else 0

unfoldable pub root_of : Job → IntervalBox
root_of job = record { lows = replicate SUPPLIERS_MAX 0; highs = values_to SUPPLIERS_MAX (last_segment job) }
