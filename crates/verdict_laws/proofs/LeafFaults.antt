-- A leaf that kills its box has no fault.
use Rattle.std.proofs.Common.{ℕ, ℤ, ◌≡◌, ◌==◌, ◌||◌, ◌⊎◌, Bool, true, false, List, [], ◌∷◌, ◌++◌, length, find, take, drop, Option, Some, None, refl, ap, arith, neg_ℤ, inl, inr, eq-eqb, length-append}
use Rattle.std.specs.Prelude.{pos, int_le, int_lt, nat_lt, ◌≤ℤ◌, ◌<ℤ◌, IsSomeAnd}
use Rattle.std.specs.List.{All}
use Rattle.std.proofs.lemmas.Int.{ints}
use Rattle.std.proofs.lemmas.Bool.{lt-ltb}
use Rattle.std.proofs.lemmas.List.Elements.{All-head, All-tail, All-append}
use Rattle.std.proofs.Math.Seq.{take-append_seam, drop-append_seam}
use Rattle.tqd_base.specs.declared.limits.TheConstants.{DUAL_MAX}
use Rattle.tqd_instance.specs.declared.job.Job.{Job}
use Rattle.tqd_instance.specs.Job.{goods, least_winners, most_winners}
use Rattle.interval_box.specs.declared.boxes.IntervalBox.{IntervalBox}
use Rattle.interval_box.specs.Winners.{WinnersFail, sure_winners, possible_winners}
use Rattle.bound_tree.specs.declared.leaf.Leaf.{Leaf}
use Rattle.bound_tree.specs.declared.leaf.Leaf.TheVariants.{Bound, Empty, Winners}
use Rattle.bound_tree.specs.Prices.{Prices, IsPrice, Fits, row_of}
use Rattle.bound_tree.specs.Value.{value, free_value}
use Rattle.bound_tree.specs.Kills.{Kills, LeafFits}
use Rattle.bound_tree.specs.LineHead.{is_beyond}
use Rattle.bound_tree.specs.TreeText.{all_prices, leaf_line}
use Rattle.tree_checker.specs.Verdict.{in_leaves, at_nodes, after_line, prices_wanted, row_fault, short_fault, free_fault, bound_fault, empty_fault, winners_fault, after_leaf}

within : (p : ℤ) → IsPrice p → is_beyond p ≡ false
within p is =
    let low : int_le (neg_ℤ DUAL_MAX) p ≡ true = grind (arith, ints, is.not_less) in
    let high : int_le p DUAL_MAX ≡ true = grind (arith, ints, is.not_more) in
    rw (low, high) refl

none_beyond : (prices : List ℤ) → All IsPrice prices → find is_beyond prices ≡ None
none_beyond [] all = refl
none_beyond (p ∷ ps) all = rw (within p (All-head IsPrice p ps all)) (none_beyond ps (All-tail IsPrice p ps all))

pub one_list : (job : Job) (area : IntervalBox) (row : Prices) → Fits job area row → row_of job (all_prices row) ≡ row
unfolding row_of
one_list job area row fits =
    let front : take (goods job) (row.goods ++ row.places) ≡ row.goods = rw (← fits.goods) (take-append_seam row.goods row.places) in
    let back : drop (goods job) (row.goods ++ row.places) ≡ row.places = rw (← fits.goods) (drop-append_seam row.goods row.places) in
    rw (front, back) refl

pub no_row_fault : (job : Job) (area : IntervalBox) (row : Prices) → Fits job area row → row_fault job area (all_prices row) ≡ None
no_row_fault job area row fits =
    let count : (length (all_prices row) == prices_wanted job area) ≡ true = eq-eqb _ _ (omega (arith, length-append row.goods row.places, fits.goods, fits.places)) in
    let none = none_beyond (all_prices row) (All-append IsPrice row.goods row.places fits.good_prices fits.place_prices) in
    rw (count, none) refl

pub reaches : (best : Option ℕ) (v : ℤ) → IsSomeAnd best (λ c. pos c ≤ℤ v) → short_fault best v ≡ None
reaches None v kills = absurd kills
reaches (Some c) v kills = let is : int_le (pos c) v ≡ true = grind (arith, ints, kills) in rw is refl

pub above : (v : ℤ) → pos 0 <ℤ v → free_fault v ≡ None
above v kills = let is : int_lt (pos 0) v ≡ true = grind (arith, ints, kills) in rw is refl

either : (a b : Bool) → (a ≡ true) ⊎ (b ≡ true) → (a || b) ≡ true
either true b h = refl
either false b (inl h) = absurd (cc)
either false b (inr h) = h

pub fail : (job : Job) (area : IntervalBox) → WinnersFail job area → winners_fault job area ≡ None
fail job area (inl many) = rw (either (nat_lt (most_winners job) (sure_winners job area)) (nat_lt (possible_winners job area) (least_winners job)) (inl (lt-ltb _ _ many))) refl
fail job area (inr few) = rw (either (nat_lt (most_winners job) (sure_winners job area)) (nat_lt (possible_winners job area) (least_winners job)) (inr (lt-ltb _ _ few))) refl

-- the line of a leaf that kills its box leads to the next box
pub leaf_goes : (job : Job) (n : ℕ) (best : Option ℕ) (area : IntervalBox) (due : List IntervalBox) (leaf : Leaf) → Kills job area best leaf
    → after_line job n (at_nodes in_leaves best (area ∷ due)) (Some (leaf_line leaf)) ≡ after_leaf n in_leaves best due None
unfolding after_line
leaf_goes job n best area due (Bound row) kills =
    let none : bound_fault job best area (all_prices row) ≡ None = rw (no_row_fault job area row (kills.0)) (rw (one_list job area row (kills.0)) (reaches best (value job area row) (kills.1))) in
    ap (after_leaf n in_leaves best due) none
leaf_goes job n best area due (Empty row) kills =
    let none : empty_fault job area (all_prices row) ≡ None = rw (no_row_fault job area row (kills.0)) (rw (one_list job area row (kills.0)) (above (free_value job area row) (kills.1))) in
    ap (after_leaf n in_leaves best due) none
leaf_goes job n best area due Winners kills = ap (after_leaf n in_leaves best due) (fail job area kills)

pub kills_fits : (job : Job) (area : IntervalBox) (best : Option ℕ) (leaf : Leaf) → Kills job area best leaf → LeafFits job area leaf
kills_fits job area best (Bound row) kills = kills.0
kills_fits job area best (Empty row) kills = kills.0
kills_fits job area best Winners kills = tt
