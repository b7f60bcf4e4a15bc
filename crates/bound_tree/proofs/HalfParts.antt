-- The halves of a box are parts of it.
use Rattle.std.proofs.Common.{ℕ, ap, arith, inl, inr}
use Rattle.std.proofs.lemmas.Bool.{cases_eq}
use Rattle.tqd_instance.specs.declared.job.Job.{Job}
use Rattle.interval_box.specs.declared.boxes.IntervalBox.{IntervalBox}
use Rattle.interval_box.specs.Ranges.{low_of, high_of, IsBoxOf}
use Rattle.interval_box.specs.Halves.{IsProper, low_half, high_half}
use Rattle.interval_box.proofs.Places.{low_half-low, low_half-high, low_half-high_other, high_half-high, high_half-low, high_half-low_other}
use Rattle.interval_box.proofs.Split.{place}
use Rattle.bound_tree.specs.Narrowed.{IsPartOf, AreParts}

low_part : (job : Job) (area : IntervalBox) (i s : ℕ) → IsBoxOf job area → IsProper area i s → IsPartOf job (low_half area i s) area
low_part job area i s b p k below = elim (cases_eq k i) [
  | inl here ↦ record {
    low = omega (arith, low_half-low area i s k);
    high = omega (arith, low_half-high area i s k here (place job area i s b p).high, ap (high_of area) here, p.below_high);
  }
  | inr other ↦ record { low = omega (arith, low_half-low area i s k); high = omega (arith, low_half-high_other area i s k other) }
]

high_part : (job : Job) (area : IntervalBox) (i s : ℕ) → IsBoxOf job area → IsProper area i s → IsPartOf job (high_half area i s) area
high_part job area i s b p k below = elim (cases_eq k i) [
  | inl here ↦ record {
    low = omega (arith, high_half-low area i s k here (place job area i s b p).low, ap (low_of area) here, p.from_low);
    high = omega (arith, high_half-high area i s k);
  }
  | inr other ↦ record { low = omega (arith, high_half-low_other area i s k other); high = omega (arith, high_half-high area i s k) }
]

pub are_parts : (job : Job) (area : IntervalBox) (i s : ℕ) → IsBoxOf job area → IsProper area i s → AreParts job area i s
are_parts job area i s b p = record { low = low_part job area i s b p; high = high_part job area i s b p }
