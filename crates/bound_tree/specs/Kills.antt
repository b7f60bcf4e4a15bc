-- When a leaf of a tree shows that a box has no feasible purchase that costs less than the best one known.
use Rattle.std.specs.Prelude.{ℕ, ◌≤◌, pos, ◌≤ℤ◌, ◌<ℤ◌, Option, IsSomeAnd}
use Rattle.tqd_instance.specs.declared.job.Job.{Job}
use Rattle.tqd_instance.specs.Purchase.{Purchase}
use Rattle.tqd_instance.specs.Feasible.{Feasible}
use Rattle.tqd_instance.specs.Cost.{cost}
use Rattle.interval_box.specs.declared.boxes.IntervalBox.{IntervalBox}
use Rattle.interval_box.specs.Ranges.{IsIn}
use Rattle.interval_box.specs.Winners.{WinnersFail}
use Rattle.bound_tree.specs.declared.leaf.Leaf.{Leaf}
use Rattle.bound_tree.specs.declared.leaf.Leaf.TheVariants.{Bound, Empty, Winners}
use Rattle.bound_tree.specs.Prices.{Fits}
use Rattle.bound_tree.specs.Value.{value, free_value}

-- a leaf that kills its box, where `best` is the cost of the best purchase known, or none
abbrev pub Kills : Job → IntervalBox → Option ℕ → Leaf → Type 0
Kills job area best (Bound row) = Fits job area row × IsSomeAnd best (λ c. pos c ≤ℤ value job area row)
Kills job area best (Empty row) = Fits job area row × (pos 0 <ℤ free_value job area row)
Kills job area best Winners = WinnersFail job area

-- the row of a leaf that has one fits the box
abbrev pub LeafFits : Job → IntervalBox → Leaf → Type 0
LeafFits job area (Bound row) = Fits job area row
LeafFits job area (Empty row) = Fits job area row
LeafFits job area Winners = Unit {0}

-- no feasible purchase in a box costs less than c
abbrev pub NoneCheaper : Job → IntervalBox → ℕ → Type 0
NoneCheaper job area c = (x : Purchase) → Feasible job x → IsIn job area x → c ≤ cost job x

-- no purchase in a box is feasible
abbrev pub NoneFeasible : Job → IntervalBox → Type 0
NoneFeasible job area = (x : Purchase) → Feasible job x → IsIn job area x → ⊥

-- what a killing leaf shows
abbrev pub Shows : Job → IntervalBox → Option ℕ → Leaf → Type 0
Shows job area best (Bound row) = IsSomeAnd best (NoneCheaper job area)
Shows job area best (Empty row) = NoneFeasible job area
Shows job area best Winners = NoneFeasible job area
