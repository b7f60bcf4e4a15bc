-- The columns of all suppliers of a job.
use Rattle.std.specs.Prelude.{ℕ, ◌≡◌, ◌<◌, List, length, slice_index_or}
use Rattle.tqd_instance.specs.declared.job.Job.{Job}
use Rattle.tqd_instance.specs.Job.{goods, suppliers}
use Rattle.interval_box.specs.declared.boxes.IntervalBox.{IntervalBox}
use Rattle.interval_box.specs.Ranges.{low_of, high_of}
use Rattle.lagrangian.specs.declared.bundle.Bundle.{Bundle}
use Rattle.lagrangian.specs.Columns.{Mixture, no_mixture, AreCapsOf, AreSegmentsIn, IsWhole}

-- the mixture of a supplier's columns
abbrev pub mixture_at : Bundle → ℕ → Mixture
mixture_at bundle i = slice_index_or bundle.suppliers.items i no_mixture

-- mixtures with the caps of the suppliers of a job
abbrev pub AreAllCapsOf : Job → List Mixture → Type 0
AreAllCapsOf job list = (i : ℕ) → i < length list → AreCapsOf job i (slice_index_or list i no_mixture).caps

-- a bundle of a job: columns of each supplier, and a place for units of each good
pub record IsBundleOf (job : Job) (bundle : Bundle) : Type 0 where
  pub count : length bundle.suppliers.items ≡ suppliers job
  pub caps : AreAllCapsOf job bundle.suppliers.items
  pub width : length bundle.units.items ≡ goods job

-- the segments of all columns are in the ranges of a box
abbrev pub AreInBox : Job → IntervalBox → Bundle → Type 0
AreInBox job area bundle = (i : ℕ) → i < suppliers job → AreSegmentsIn (low_of area i) (high_of area i) (mixture_at bundle i)

-- and their weights are a whole at each supplier
abbrev pub AreWholeIn : Job → IntervalBox → Bundle → Type 0
AreWholeIn job area bundle = (i : ℕ) → i < suppliers job → IsWhole (low_of area i) (high_of area i) (mixture_at bundle i)
