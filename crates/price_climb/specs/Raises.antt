-- The steps that a climb looks for.
use Rattle.std.specs.Prelude.{ℕ, ◌≡◌, ◌<◌, ◌≤◌, ◌⊎◌, ℤ, neg_ℤ, ◌<ℤ◌}
use Rattle.bound_tree.specs.Prices.{IsPrice}
use Rattle.price_climb.specs.Table.{TableState, value_of, IsPlace, price_after, after}
use Rattle.price_climb.specs.Climbing.{StandsAt}

-- raising the price at a place by delta keeps it within the limit and raises the value
pub record IsRaise (s : TableState) (place : ℕ) (delta : ℤ) : Type 0 where
  pub in_range : IsPrice (price_after s place delta)
  pub higher : value_of s <ℤ value_of (after s place delta)

-- a step up or down at a place of the row that raises the value
pub record Raises (s : TableState) (step : ℤ) (place : ℕ) (delta : ℤ) : Type 0 where
  pub is_place : IsPlace s place
  pub is_step : (delta ≡ step) ⊎ (delta ≡ neg_ℤ step)
  pub is_price : IsPrice delta
  pub is_raise : IsRaise s place delta

-- no step at a place from `from` to before `to` raises the value
abbrev pub StandsWithin : TableState → ℤ → ℕ → ℕ → Type 0
StandsWithin s step from to = (n : ℕ) → from ≤ n → n < to → StandsAt s.job s.area s.row step n
