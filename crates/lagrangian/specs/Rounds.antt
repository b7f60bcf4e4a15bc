-- What the rounds of a climb keep.
use Rattle.std.specs.Prelude.{ℕ, ℤ, ◌≤ℤ◌, List, Option}
use Rattle.tqd_instance.specs.declared.job.Job.{Job}
use Rattle.interval_box.specs.declared.boxes.IntervalBox.{IntervalBox}
use Rattle.bound_tree.specs.Prices.{Prices}
use Rattle.lagrangian.specs.PricingState.{PricingState}
use Rattle.lagrangian.specs.Pricing.{IsBestRow, IsPricedFor}
use Rattle.lagrangian.specs.Climbing.{Reaches}

-- a value is not at the target yet
abbrev pub IsBelow : Option ℕ → ℤ → Type 0
IsBelow target amount = Reaches target amount → ⊥

-- the greatest value in a box of a row of these prices of the goods
pub record IsBestValue (job : Job) (area : IntervalBox) (good_prices : List ℤ) (amount : ℤ) : Type 0 where
  pub row : Prices
  pub best : IsBestRow job area good_prices amount row

-- prices of the goods whose value is no less than that of the prices before, and below the target
pub record IsRisen (job : Job) (area : IntervalBox) (good_prices : List ℤ) (target : Option ℕ) (before after : ℤ) : Type 0 where
  pub at_best : IsBestValue job area good_prices after
  pub not_lower : before ≤ℤ after
  pub below : IsBelow target after

-- prices of the goods whose pricing is at the target, and no lower than before
pub record IsPricedAbove (job : Job) (area : IntervalBox) (good_prices : List ℤ) (target : Option ℕ) (before : ℤ) (state : PricingState) : Type 0 where
  pub priced : IsPricedFor job area good_prices state
  pub reaches : Reaches target state.value
  pub not_lower : before ≤ℤ state.value
