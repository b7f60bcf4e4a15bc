-- Which level balances offers with totals from low to high.
use Rattle.std.proofs.Common.{ℕ, ◌≡◌, ◌<◌, ◌≤◌, List, refl, arith, inl, inr}
use Rattle.std.proofs.lemmas.Bool.{cases_lt, cases_order}
use Rattle.lagrangian.specs.declared.offer.TheConstants.{ZERO, TOP}
use Rattle.lagrangian.specs.declared.offer.Offer.{Offer}
use Rattle.lagrangian.specs.Levels.{units_under, units_up_to, filled, IsBalanced, IsReached}
use Rattle.lagrangian.proofs.OneLevel.{filled-under, filled-over, filled-at}
use Rattle.lagrangian.proofs.OfferSums.{units_under-mono, units_up_to-le-under, units_under-le-up_to}

pub balanced_at_zero : (offers : List Offer) (low high : ℕ) → low ≤ units_under ZERO offers → units_under ZERO offers ≤ high
    → IsBalanced (units_under ZERO offers) (units_up_to ZERO offers) low high ZERO
balanced_at_zero offers low high from to =
    let is = filled-at (units_under ZERO offers) low high ZERO refl in
    let more = units_under-le-up_to ZERO offers in
    record { within = omega arith; from_low = omega arith; to_high = omega arith; all_below = omega arith; enough = inl (omega arith) }

pub balanced_at_top : (offers : List Offer) (low high : ℕ) → units_under TOP offers < low → low ≤ high
    → IsBalanced (units_under TOP offers) (units_up_to TOP offers) low high TOP
balanced_at_top offers low high few ordered =
    let is = filled-over (units_under TOP offers) low high TOP (omega arith) in
    record { within = omega arith; from_low = omega arith; to_high = omega arith; all_below = omega arith; enough = inr (few, refl) }

-- the level up to which low is reached is no less than ZERO
pub balanced_up : (offers : List Offer) (low high level : ℕ) → low ≤ high → units_under ZERO offers < low
    → IsReached low (units_under level offers) (units_up_to level offers) level
    → IsBalanced (units_under level offers) (units_up_to level offers) low high level
balanced_up offers low high level ordered few reached =
    let enough = reached.enough in
    let from = from_zero enough in
    let is = called from in
    let below = reached.too_few in
    record { within = reached.within; from_low = omega arith; to_high = omega arith; all_below = omega arith; enough = inl (omega arith) }
  where
    from_zero : low ≤ units_up_to level offers → ZERO ≤ level
    from_zero enough = elim (cases_lt level ZERO) [
      | inl under ↦ absurd (omega (arith, units_up_to-le-under level ZERO offers under))
      | inr from ↦ from
    ]

    called : ZERO ≤ level → filled (units_under level offers) low high level ≡ low
    called from = elim (cases_order level ZERO) [
      | inl at ↦ omega (arith, filled-at (units_under level offers) low high level at, reached.too_few)
      | inr other ↦ elim other [
        | inl under ↦ absurd (omega arith)
        | inr over ↦ filled-over (units_under level offers) low high level over
      ]
    ]

-- the level up to which high is reached is less than ZERO
pub balanced_down : (offers : List Offer) (low high level : ℕ) → low ≤ high → high < units_under ZERO offers
    → IsReached high (units_under level offers) (units_up_to level offers) level
    → IsBalanced (units_under level offers) (units_up_to level offers) low high level
balanced_down offers low high level ordered many reached =
    let under : level < ZERO = below_zero in
    let is = filled-under (units_under level offers) low high level under in
    let enough = reached.enough in
    let below = reached.too_few in
    record { within = reached.within; from_low = omega arith; to_high = omega arith; all_below = omega arith; enough = inl (omega arith) }
  where
    below_zero : level < ZERO
    below_zero = elim (cases_lt level ZERO) [
      | inl under ↦ under
      | inr from ↦ absurd (omega (arith, units_under-mono ZERO level offers from, reached.too_few))
    ]
