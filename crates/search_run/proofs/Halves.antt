-- The half that is kept of a split box.
use Rattle.std.proofs.Common.{ℕ, Bool, true, false, arith}
use Rattle.tqd_instance.specs.declared.job.Job.{Job}
use Rattle.interval_box.specs.declared.boxes.IntervalBox.{IntervalBox}
use Rattle.interval_box.specs.Ranges.{IsBoxOf}
use Rattle.interval_box.specs.Halves.{IsProper}
use Rattle.interval_box.proofs.Split.{low_is_box, high_is_box}
use Rattle.bound_tree.specs.Narrowed.{IsPartOf}
use Rattle.bound_tree.proofs.HalfParts.{are_parts}
use Rattle.search_run.specs.Thoughts.{half_of}

pub half_is_box : (job : Job) (area : IntervalBox) (i at : ℕ) (low : Bool) → IsBoxOf job area → IsProper area i at → IsBoxOf job (half_of area i at low)
half_is_box job area i at true b p = low_is_box job area i at b p
half_is_box job area i at false b p = high_is_box job area i at b p

-- a part of a part
pub part_of_part : (job : Job) (inner part area : IntervalBox) → IsPartOf job inner part → IsPartOf job part area → IsPartOf job inner area
part_of_part job inner part area a b i below = record {
  low = omega (arith, (a i below).low, (b i below).low);
  high = omega (arith, (a i below).high, (b i below).high);
}

pub half_is_part : (job : Job) (area : IntervalBox) (i at : ℕ) (low : Bool) → IsBoxOf job area → IsProper area i at → IsPartOf job (half_of area i at low) area
half_is_part job area i at true b p = (are_parts job area i at b p).low
half_is_part job area i at false b p = (are_parts job area i at b p).high
