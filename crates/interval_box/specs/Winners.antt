-- When no purchase in a box can meet the winner limits.
use Rattle.std.specs.Prelude.{ℕ, ◌<◌, ◌==◌, ◌⊎◌, if◌then◌else◌}
use Rattle.tqd_instance.specs.declared.job.Job.{Job}
use Rattle.tqd_base.specs.Sum.{sum_to}
use Rattle.tqd_instance.specs.Job.{suppliers, least_winners, most_winners}
use Rattle.interval_box.specs.declared.boxes.IntervalBox.{IntervalBox}
use Rattle.interval_box.specs.Ranges.{low_of, high_of}

-- 1 where the range of a supplier is without 0, else 0
unfoldable pub must_win : IntervalBox → ℕ → ℕ
must_win area i = if low_of area i == 0 then 0 else 1

-- 1 where the range of a supplier goes above 0, else 0
unfoldable pub may_win : IntervalBox → ℕ → ℕ
may_win area i = if high_of area i == 0 then 0 else 1

-- how many suppliers are bought from in every purchase in the box
unfoldable pub sure_winners : Job → IntervalBox → ℕ
sure_winners job area = sum_to (suppliers job) (must_win area)

-- how many suppliers may be bought from in a purchase in the box
unfoldable pub possible_winners : Job → IntervalBox → ℕ
possible_winners job area = sum_to (suppliers job) (may_win area)

-- too many suppliers have to be bought from, or too few can be
abbrev pub WinnersFail : Job → IntervalBox → Type 0
WinnersFail job area = (most_winners job < sure_winners job area) ⊎ (possible_winners job area < least_winners job)
