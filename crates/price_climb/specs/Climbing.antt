-- What a climb of a row's value answers.
use Rattle.std.specs.Prelude.{ℕ, ◌<◌, ℤ, pos, neg_ℤ, ◌+ℤ◌, ◌≤ℤ◌}
use Rattle.tqd_base.specs.declared.limits.TheConstants.{DUAL_MAX}
use Rattle.tqd_instance.specs.declared.job.Job.{Job}
use Rattle.interval_box.specs.declared.boxes.IntervalBox.{IntervalBox}
use Rattle.bound_tree.specs.Prices.{Prices, IsPrice, Fits}
use Rattle.bound_tree.specs.Value.{value}
use Rattle.price_climb.specs.declared.climbing.Climbed.{Climbed}
use Rattle.price_climb.specs.declared.climbing.Climbed.TheVariants.{Still, Risen}
use Rattle.price_climb.specs.PriceList.{price_count, price_of, changed}

-- a step of a price
pub record IsStep (step : ℤ) : Type 0 where
  pub some : pos 1 ≤ℤ step
  pub within : step ≤ℤ DUAL_MAX

-- raising a price by delta leaves the limit of prices, or gives no greater value
abbrev pub IsNoRaise : Job → IntervalBox → Prices → ℕ → ℤ → Type 0
IsNoRaise job area row n delta = IsPrice (price_of row n +ℤ delta)
    → value job area (changed job row n delta) ≤ℤ value job area row

-- no change of this price by a step up or down raises the value
pub record StandsAt (job : Job) (area : IntervalBox) (row : Prices) (step : ℤ) (n : ℕ) : Type 0 where
  pub up : IsNoRaise job area row n step
  pub down : IsNoRaise job area row n (neg_ℤ step)

-- a row stands still: no change of one price by a step up or down raises its value
abbrev pub StandsStill : Job → IntervalBox → Prices → ℤ → Type 0
StandsStill job area row step = (n : ℕ) → n < price_count job area → StandsAt job area row step n

-- a climb ends in a row of the box whose value is not lower, and that stands still
pub record EndsStill (job : Job) (area : IntervalBox) (step : ℤ) (from row : Prices) : Type 0 where
  pub fits : Fits job area row
  pub not_lower : value job area from ≤ℤ value job area row
  pub still : StandsStill job area row step

-- or in one that does not, whose value is higher by the number of its rounds at least
pub record EndsRisen (job : Job) (area : IntervalBox) (step : ℤ) (rounds : ℕ) (from row : Prices) : Type 0 where
  pub fits : Fits job area row
  pub higher : (value job area from +ℤ pos rounds) ≤ℤ value job area row
  pub moves : StandsStill job area row step → ⊥

abbrev pub Climbs : Job → IntervalBox → ℤ → ℕ → Prices → Climbed → Type 0
Climbs job area step rounds from (Still row) = EndsStill job area step from row
Climbs job area step rounds from (Risen row) = EndsRisen job area step rounds from row
