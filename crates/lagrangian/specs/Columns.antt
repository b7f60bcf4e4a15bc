-- The columns of a supplier: purchases from it, of which its part of a climb's mixture is made.
use Rattle.std.specs.Prelude.{ℕ, ◌≡◌, ◌*◌, ◌≤◌, ◌<◌, ◌==◌, if◌then◌else◌, List, [], length, sum, slice_index, slice_index_or, pos, false}
use Rattle.std.specs.List.{All}
use Rattle.tqd_base.specs.declared.limits.TheConstants.{QTY_MAX}
use Rattle.tqd_base.specs.Sum.{sum_to}
use Rattle.tqd_instance.specs.declared.job.Job.{Job}
use Rattle.tqd_instance.specs.Job.{goods}
use Rattle.bound_tree.specs.Value.{cap}
use Rattle.lagrangian.specs.declared.column.Column.{Column}
use Rattle.lagrangian.specs.declared.weights.TheConstants.{COLUMNS_MAX, WHOLE}

-- the caps of a supplier's goods, its columns, and by their places how much each of them weighs
pub record Mixture : Type 0 where
  pub caps : List ℕ
  pub weights : List ℕ
  pub columns : List Column

abbrev pub no_mixture : Mixture
no_mixture = record { caps = []; weights = []; columns = [] }

abbrev pub no_column : Column
no_column = record { segment = 0; cost = pos 0; age = 0; live = false; units = [] }

abbrev pub column_at : Mixture → ℕ → Column
column_at mixture at = slice_index_or mixture.columns at no_column

-- the weight of a column where it is of a segment, and else 0
unfoldable pub weight_at : Mixture → ℕ → ℕ → ℕ
weight_at mixture j at = if (column_at mixture at).segment == j then slice_index mixture.weights at else 0

-- the weight of the columns of a segment
unfoldable pub weight_in : Mixture → ℕ → ℕ
weight_in mixture j = sum_to COLUMNS_MAX (weight_at mixture j)

-- the units of a good in a column times its weight
unfoldable pub units_at : Mixture → ℕ → ℕ → ℕ
units_at mixture k at = slice_index mixture.weights at * slice_index (column_at mixture at).units k

-- the units of a good, weighed
unfoldable pub units_in : Mixture → ℕ → ℕ
units_in mixture k = sum_to COLUMNS_MAX (units_at mixture k)

-- units of each good within its cap
pub record AreWithin (caps units : List ℕ) : Type 0 where
  pub width : length units ≡ length caps
  pub within : (k : ℕ) → slice_index units k ≤ slice_index caps k

abbrev pub IsColumn : List ℕ → Column → Type 0
IsColumn caps column = AreWithin caps column.units

-- so many columns, the units of each within the caps
pub record AreColumns (caps : List ℕ) (columns : List Column) : Type 0 where
  pub small : (k : ℕ) → slice_index caps k ≤ QTY_MAX
  pub count : length columns ≡ COLUMNS_MAX
  pub each : All (IsColumn caps) columns

-- a segment number in a range
pub record IsSegmentIn (low high j : ℕ) : Type 0 where
  pub from_low : low ≤ j
  pub to_high : j ≤ high

-- each column's segment is in a range
abbrev pub AreSegmentsIn : ℕ → ℕ → Mixture → Type 0
AreSegmentsIn low high mixture = All (λ (c : Column). IsSegmentIn low high c.segment) mixture.columns

-- as many columns and weights as there are places
pub record HasPlaces (mixture : Mixture) : Type 0 where
  pub columns : length mixture.columns ≡ COLUMNS_MAX
  pub weights : length mixture.weights ≡ COLUMNS_MAX

-- a mixture whose weights are a whole, and whose segments are in a range
pub record IsWhole (low high : ℕ) (mixture : Mixture) : Type 0 where
  pub places : HasPlaces mixture
  pub inside : AreSegmentsIn low high mixture
  pub whole : sum mixture.weights ≡ WHOLE

-- the caps of a supplier of a job
pub record AreCapsOf (job : Job) (i : ℕ) (caps : List ℕ) : Type 0 where
  pub width : length caps ≡ goods job
  pub each : (k : ℕ) → k < goods job → slice_index caps k ≡ cap job i k

-- what stays the same of a mixture where weight is moved or columns change within a range
pub record Keeps (old new : Mixture) : Type 0 where
  pub caps : new.caps ≡ old.caps
  pub places : HasPlaces old → HasPlaces new
  pub total : sum new.weights ≡ sum old.weights
  pub inside : (low high : ℕ) → AreSegmentsIn low high old → AreSegmentsIn low high new

-- each of several mixtures keeps what stays the same
pub record KeepsAll (old new : List Mixture) : Type 0 where
  pub count : length new ≡ length old
  pub each : (i : ℕ) → i < length old → Keeps (slice_index_or old i no_mixture) (slice_index_or new i no_mixture)
