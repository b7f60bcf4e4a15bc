-- What a climb promises.
use Rattle.std.specs.Prelude.{ℕ, ◌≡◌, ◌+◌, ◌-◌, ◌<◌, ℤ, pos, ◌≤ℤ◌, List, Option, IsSomeAnd}
use Rattle.tqd_base.specs.Sum.{sum_to}
use Rattle.tqd_instance.specs.declared.job.Job.{Job}
use Rattle.tqd_instance.specs.Job.{suppliers}
use Rattle.interval_box.specs.declared.boxes.IntervalBox.{IntervalBox}
use Rattle.interval_box.specs.Ranges.{low_of, high_of}
use Rattle.bound_tree.specs.Prices.{Prices, Fits}
use Rattle.bound_tree.specs.Value.{value}
use Rattle.lagrangian.specs.declared.climb.Climber.{Climber}
use Rattle.lagrangian.specs.declared.weights.TheConstants.{WHOLE}
use Rattle.lagrangian.specs.Priced.{AreGoodPrices}
use Rattle.lagrangian.specs.Columns.{weight_in, units_in}
use Rattle.lagrangian.specs.Bundle.{mixture_at, IsBundleOf}

-- a value is at least the target, where there is one
abbrev pub Reaches : Option ℕ → ℤ → Type 0
Reaches target amount = IsSomeAnd target (λ cost. pos cost ≤ℤ amount)

-- no row of these prices of the goods has a greater value in a box
abbrev pub NoRowIsAbove : Job → IntervalBox → List ℤ → ℤ → Type 0
NoRowIsAbove job area good_prices amount = (row : Prices) → Fits job area row → row.goods ≡ good_prices → value job area row ≤ℤ amount

-- the prices of the goods that a climber is at
abbrev pub goods_of : Climber → List ℤ
goods_of climber = climber.goods.items

-- the weight of a segment of a supplier
abbrev pub weight_of : Climber → ℕ → ℕ → ℕ
weight_of climber i j = weight_in (mixture_at climber.bundle i) j

-- the units of a good from a supplier, weighed
abbrev pub weighted_of : Climber → ℕ → ℕ → ℕ
weighted_of climber i k = units_in (mixture_at climber.bundle i) k

-- a climber for boxes of a job
pub record IsClimberOf (job : Job) (climber : Climber) : Type 0 where
  pub prices : AreGoodPrices job climber.goods.items
  pub tried : AreGoodPrices job climber.tried.items
  pub bundle : IsBundleOf job climber.bundle

-- the weights of the segments in each supplier's range are a whole together
abbrev pub IsMixedIn : Job → IntervalBox → Climber → Type 0
IsMixedIn job area climber = (i : ℕ) → i < suppliers job
    → sum_to (high_of area i + 1 - low_of area i) (λ n. weight_of climber i (low_of area i + n)) ≡ WHOLE
