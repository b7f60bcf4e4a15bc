-- Where the places of a supplier stand among those of a box.
use Rattle.std.proofs.Common.{ℕ, suc, ◌≡◌, ◌+◌, ◌<◌, ◌≤◌, arith}
use Rattle.tqd_instance.specs.declared.job.Job.{Job}
use Rattle.tqd_instance.specs.Job.{suppliers}
use Rattle.tqd_instance.proofs.Jobs.{job_in_range}
use Rattle.tqd_instance.proofs.SumLemmas.{sum_to-zero, sum_to-suc, sum_to-more, sum_to-longer}
use Rattle.interval_box.specs.declared.boxes.IntervalBox.{IntervalBox}
use Rattle.interval_box.specs.Ranges.{Admits, IsBoxOf}
use Rattle.bound_tree.specs.Prices.{first_of, count_of, places_to, place_of}

pub places_to-zero : (area : IntervalBox) → places_to area 0 ≡ 0
unfolding places_to
places_to-zero area = sum_to-zero (count_of area)

pub places_to-more : (area : IntervalBox) (n : ℕ) → places_to area (n + 1) ≡ places_to area n + count_of area n
unfolding places_to
places_to-more area n = sum_to-more n (count_of area)

-- the places of a supplier are among those of all
pub places_to-within : (area : IntervalBox) (i n : ℕ) → i < n → places_to area i + count_of area i ≤ places_to area n
unfolding places_to
places_to-within area i n below = omega (arith, sum_to-suc i (count_of area), sum_to-longer (suc i) n (count_of area) (omega arith))

pub count_few : (job : Job) (area : IntervalBox) → IsBoxOf job area → (i : ℕ) → i < suppliers job → count_of area i ≤ 16
unfolding count_of first_of
count_few job area b i below =
    let few = ((job_in_range job).each_supplier i below).few in
    let r = b.ranges i below in
    omega (arith, few, r.within)

-- the place of a segment in a supplier's range
pub place_below : (area : IntervalBox) (i j : ℕ) → 1 ≤ j → Admits area i j → place_of area i j < places_to area i + count_of area i
unfolding place_of count_of first_of
place_below area i j some a = omega (arith, a.from_low, a.to_high)

-- the steps of a loop over the suppliers
pub ruleset places = (places_to-zero, places_to-more)
