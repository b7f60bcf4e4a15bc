-- When a single box may have a feasible purchase, by its totals and its winners.
use Rattle.std.specs.Prelude.{ℕ, ◌≡◌, ◌<◌, ◌≤◌, min, max, List, length, slice_index}
use Rattle.tqd_base.specs.declared.limits.TheConstants.{SUPPLIERS_MAX}
use Rattle.tqd_base.specs.Sum.{sum_to}
use Rattle.tqd_instance.specs.declared.job.Job.{Job}
use Rattle.tqd_instance.specs.Job.{goods, suppliers, need, most, low, high}
use Rattle.interval_box.specs.declared.boxes.IntervalBox.{IntervalBox}
use Rattle.interval_box.specs.Ranges.{low_of, high_of, Admits, IsBoxOf, IsSingle}
use Rattle.interval_box.specs.Singles.{IsAlone}
use Rattle.interval_box.specs.Winners.{WinnersFail}
use Rattle.bound_tree.specs.Value.{cap}
use Rattle.bound_tree.specs.Narrowed.{IsPartOf}

-- the units that have to be bought, of all goods
unfoldable pub needs : Job → ℕ
needs job = sum_to (goods job) (need job)

-- the units that may be bought, of all goods
unfoldable pub mosts : Job → ℕ
mosts job = sum_to (goods job) (most job)

-- the most units that a feasible purchase takes from a supplier, of all goods
unfoldable pub caps : Job → ℕ → ℕ
caps job i = sum_to (goods job) (cap job i)

-- the least units that a purchase in a box takes, from all suppliers
unfoldable pub lows : Job → IntervalBox → ℕ
lows job area = sum_to (suppliers job) (λ i. low job i (low_of area i))

-- the most units that one in it can take
unfoldable pub highs : Job → IntervalBox → ℕ
highs job area = sum_to (suppliers job) (λ i. min (high job i (high_of area i)) (caps job i))

-- totals and winners of a box leave room for a feasible purchase
pub record HasRoomFor (job : Job) (area : IntervalBox) : Type 0 where
  pub not_too_many : lows job area ≤ mosts job
  pub enough : needs job ≤ highs job area
  pub winners : WinnersFail job area → ⊥

-- a single box, a part of another, that leaves such room
pub record IsRepaired (job : Job) (area single : IntervalBox) : Type 0 where
  pub of_job : IsBoxOf job single
  pub is_single : IsSingle job single
  pub part : IsPartOf job single area
  pub room : HasRoomFor job single

-- a pick for each supplier that is in its range
pub record ArePicks (job : Job) (area : IntervalBox) (picks : List ℕ) : Type 0 where
  pub count : length picks ≡ SUPPLIERS_MAX
  pub admitted : (i : ℕ) → i < suppliers job → Admits area i (slice_index picks i)

-- a pick, held within the range of a supplier
unfoldable pub held : IntervalBox → List ℕ → ℕ → ℕ
held area picks i = min (max (slice_index picks i) (low_of area i)) (high_of area i)

-- the picks of all suppliers, held within a box
abbrev pub AreHeld : Job → IntervalBox → List ℕ → List ℕ → Type 0
AreHeld job area picks chosen = (i : ℕ) → i < suppliers job → slice_index chosen i ≡ held area picks i

-- their single box
pub record IsHeld (job : Job) (area : IntervalBox) (picks : List ℕ) (single : IntervalBox) : Type 0 where
  pub of_job : IsBoxOf job single
  pub alone : (i : ℕ) → i < suppliers job → IsAlone single i (held area picks i)
