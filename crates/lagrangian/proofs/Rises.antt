-- The values of prices of the goods in a climb.
use Rattle.std.proofs.Common.{ℕ, ℤ, pos, ◌≤ℤ◌, List, Option, Some, None, subst, sym, arith}
use Rattle.std.proofs.lemmas.Int.{ints}
use Rattle.tqd_instance.specs.declared.job.Job.{Job}
use Rattle.interval_box.specs.declared.boxes.IntervalBox.{IntervalBox}
use Rattle.lagrangian.specs.PricingState.{PricingState}
use Rattle.lagrangian.specs.Pricing.{IsPricedFor, row_of}
use Rattle.lagrangian.specs.Climbing.{Reaches, NoRowIsAbove}
use Rattle.lagrangian.specs.Rounds.{IsBelow, IsBestValue}

-- the value of a pricing is the best of its prices of the goods
pub IsBestValue-priced : (job : Job) (area : IntervalBox) (prices : List ℤ) (state : PricingState) → IsPricedFor job area prices state
    → IsBestValue job area prices state.value
IsBestValue-priced job area prices state p = record { row = row_of job area state; best = p.best_row }

-- no row is above the best value
pub NoRowIsAbove-best : (job : Job) (area : IntervalBox) (prices : List ℤ) (v : ℤ) → IsBestValue job area prices v → NoRowIsAbove job area prices v
NoRowIsAbove-best job area prices v b = b.best.best

-- the best value is no greater than what no row is above
pub best_within : (job : Job) (area : IntervalBox) (prices : List ℤ) (v w : ℤ) → IsBestValue job area prices v → NoRowIsAbove job area prices w → v ≤ℤ w
best_within job area prices v w b h = subst (λ (z : ℤ). z ≤ℤ w) (sym b.best.is_value) (h b.row b.best.fits b.best.same_goods)

pub NoRowIsAbove-more : (job : Job) (area : IntervalBox) (prices : List ℤ) (v w : ℤ) → NoRowIsAbove job area prices v → v ≤ℤ w → NoRowIsAbove job area prices w
NoRowIsAbove-more job area prices v w h le = λ row fits same. let z = h row fits same in omega (arith, ints)

above_below : (t : ℕ) (v w : ℤ) → (pos t ≤ℤ v → ⊥) → pos t ≤ℤ w → v ≤ℤ w
above_below t v w h le = grind (arith, ints)

-- a value at the target is above one that is below it
pub reached_above : (target : Option ℕ) (v w : ℤ) → IsBelow target v → Reaches target w → v ≤ℤ w
reached_above None v w below r = absurd r
reached_above (Some t) v w below r = above_below t v w below r
