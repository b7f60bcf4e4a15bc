-- A leaf that kills its box is sound.
use Rattle.std.proofs.Common.{ℕ, pos, ◌≤ℤ◌, Option, Some, None, arith}
use Rattle.std.specs.Prelude.{IsSomeAnd}
use Rattle.std.proofs.lemmas.Int.{ints}
use Rattle.tqd_instance.specs.declared.job.Job.{Job}
use Rattle.interval_box.specs.declared.boxes.IntervalBox.{IntervalBox}
use Rattle.interval_box.proofs.Winning.{none_feasible}
use Rattle.bound_tree.specs.declared.leaf.Leaf.{Leaf}
use Rattle.bound_tree.specs.declared.leaf.Leaf.TheVariants.{Bound, Empty, Winners}
use Rattle.bound_tree.specs.Prices.{Prices}
use Rattle.bound_tree.specs.Value.{value}
use Rattle.bound_tree.specs.Kills.{Kills, Shows, NoneCheaper}
use Rattle.bound_tree.proofs.Duality.{no_cheaper, not_above_zero}

bounds : (job : Job) (area : IntervalBox) (row : Prices) (best : Option ℕ) → IsSomeAnd best (λ c. pos c ≤ℤ value job area row) → IsSomeAnd best (NoneCheaper job area)
bounds job area row None h = h
bounds job area row (Some c) h = λ x f inside. (let b = no_cheaper job area row x f inside in omega (arith, ints))

pub sound : (job : Job) (area : IntervalBox) (best : Option ℕ) (leaf : Leaf) → Kills job area best leaf → Shows job area best leaf
sound job area best (Bound row) kills = bounds job area row best kills.1
sound job area best (Empty row) kills = λ x f inside. (let b = not_above_zero job area row x f inside in let above = kills.1 in omega (arith, ints))
sound job area best Winners kills = λ x f inside. none_feasible job area x kills inside f
