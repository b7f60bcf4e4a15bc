-- What a valid tree shows of its box.
use Rattle.std.proofs.Common.{ℕ, Option, Some, None, inl, inr}
use Rattle.tqd_instance.specs.declared.job.Job.{Job}
use Rattle.interval_box.specs.declared.boxes.IntervalBox.{IntervalBox}
use Rattle.interval_box.specs.Ranges.{IsBoxOf}
use Rattle.interval_box.specs.Halves.{IsProper, low_half, high_half}
use Rattle.interval_box.proofs.Split.{low_is_box, high_is_box, in_one_half}
use Rattle.bound_tree.specs.declared.leaf.Leaf.{Leaf}
use Rattle.bound_tree.specs.declared.leaf.Leaf.TheVariants.{Bound, Empty, Winners}
use Rattle.bound_tree.specs.Kills.{Kills, LeafFits, NoneFeasible}
use Rattle.bound_tree.specs.BoxTree.{BoxTree, at_leaf, at_split, IsValid, ShowsAll}
use Rattle.bound_tree.specs.Shared.{IsTreeOf}
use Rattle.bound_tree.proofs.Soundness.{sound}

-- where no purchase is feasible, none is cheaper
shows_none : (job : Job) (area : IntervalBox) (best : Option ℕ) → NoneFeasible job area → ShowsAll job area best
shows_none job area None none = none
shows_none job area (Some c) none = λ x f inside. absurd (none x f inside)

leaf_shows : (job : Job) (area : IntervalBox) (best : Option ℕ) (leaf : Leaf) → Kills job area best leaf → ShowsAll job area best
leaf_shows job area None (Bound row) kills = absurd (kills.1)
leaf_shows job area (Some c) (Bound row) kills = sound job area (Some c) (Bound row) kills
leaf_shows job area best (Empty row) kills = shows_none job area best (sound job area best (Empty row) kills)
leaf_shows job area best Winners kills = shows_none job area best (sound job area best Winners kills)

-- what holds of both halves holds of the box
halves_show : (job : Job) (area : IntervalBox) (best : Option ℕ) (i s : ℕ) → IsBoxOf job area → IsProper area i s
    → ShowsAll job (low_half area i s) best → ShowsAll job (high_half area i s) best → ShowsAll job area best
halves_show job area None i s b p low high = λ x f inside.
    elim ((in_one_half job area i s x b p).either.0 inside) [ inl below ↦ low x f below | inr above ↦ high x f above ]
halves_show job area (Some c) i s b p low high = λ x f inside.
    elim ((in_one_half job area i s x b p).either.0 inside) [ inl below ↦ low x f below | inr above ↦ high x f above ]

pub valid_sound : (job : Job) (area : IntervalBox) (best : Option ℕ) (tree : BoxTree) → IsBoxOf job area → IsValid job best area tree → ShowsAll job area best
unfolding IsValid
valid_sound job area best (at_leaf leaf) b valid = leaf_shows job area best leaf valid
valid_sound job area best (at_split i s low high) b valid =
    halves_show job area best i s b valid.0
    (valid_sound job (low_half area i s) best low (low_is_box job area i s b valid.0) valid.1)
    (valid_sound job (high_half area i s) best high (high_is_box job area i s b valid.0) valid.2)

leaf_fits : (job : Job) (area : IntervalBox) (best : Option ℕ) (leaf : Leaf) → Kills job area best leaf → LeafFits job area leaf
leaf_fits job area best (Bound row) kills = kills.0
leaf_fits job area best (Empty row) kills = kills.0
leaf_fits job area best Winners kills = tt

-- the rows of a valid tree fit
pub valid_is_tree : (job : Job) (area : IntervalBox) (best : Option ℕ) (tree : BoxTree) → IsValid job best area tree → IsTreeOf job area tree
unfolding IsValid IsTreeOf
valid_is_tree job area best (at_leaf leaf) valid = leaf_fits job area best leaf valid
valid_is_tree job area best (at_split i s low high) valid =
    (valid.0, valid_is_tree job (low_half area i s) best low valid.1, valid_is_tree job (high_half area i s) best high valid.2)
