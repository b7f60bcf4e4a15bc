-- The level up to which so many units are reached, found by leaving out offers.
use Rattle.std.proofs.Common.{ℕ, ◌≡◌, ◌+◌, ◌*◌, ◌/◌, ◌<◌, ◌≤◌, true, false, cond, List, [], ◌∷◌, length, get_or, take, refl, ap, sym, ◌∙◌, arith, subst, inl, inr, length-take, get_or-take}
use Rattle.std.specs.List.{filter, All}
use Rattle.std.proofs.lemmas.Bool.{cases_lt, cases_Bool}
use Rattle.std.proofs.lemmas.Bool.Decides.{nat_tests}
use Rattle.std.proofs.lemmas.List.Elements.{filter_passes, All-get_or}
use Rattle.std.proofs.lemmas.List.Sums.{sum_by-cons}
use Rattle.lagrangian.specs.declared.offer.TheConstants.{TOP}
use Rattle.lagrangian.specs.declared.offer.Offer.{Offer}
use Rattle.lagrangian.specs.Levels.{under, up_to, is_between, units_under, units_up_to, IsReached}
use Rattle.lagrangian.proofs.OneLevel.{under-yes, under-no, under-le, up_to-yes, up_to-no}
use Rattle.lagrangian.proofs.OfferSums.{units_under-none}

-- what the test says
between-yes : (from to : ℕ) (o : Offer) → from ≤ o.level → o.level < to → is_between from to o ≡ true
unfolding is_between
between-yes from to o f t = grind (arith, nat_tests)

between-low : (from to : ℕ) (o : Offer) → o.level < from → is_between from to o ≡ false
unfolding is_between
between-low from to o f = grind (arith, nat_tests)

between-high : (from to : ℕ) (o : Offer) → to ≤ o.level → is_between from to o ≡ false
unfolding is_between
between-high from to o t = grind (arith, nat_tests)

between-is : (from to : ℕ) (o : Offer) → is_between from to o ≡ true → (from ≤ o.level) × (o.level < to)
between-is from to o is = elim (cases_lt o.level from) [
  | inl low ↦ absurd (cc (between-low from to o low))
  | inr above ↦ elim (cases_lt o.level to) [
    | inl below ↦ (above, below)
    | inr high ↦ absurd (cc (between-high from to o high))
  ]
]

-- the units of one more offer
units_under-cons : (top : ℕ) (o : Offer) (offers : List Offer) → units_under top (o ∷ offers) ≡ under top o.level o.cap + units_under top offers
unfolding units_under
units_under-cons top o offers = sum_by-cons (λ o. under top o.level o.cap) o offers

filter-yes : (from to : ℕ) (o : Offer) (offers : List Offer) → is_between from to o ≡ true → filter (is_between from to) (o ∷ offers) ≡ o ∷ filter (is_between from to) offers
filter-yes from to o offers is = ap (λ b. cond b (o ∷ filter (is_between from to) offers) (filter (is_between from to) offers)) is

filter-no : (from to : ℕ) (o : Offer) (offers : List Offer) → is_between from to o ≡ false → filter (is_between from to) (o ∷ offers) ≡ filter (is_between from to) offers
filter-no from to o offers is = ap (λ b. cond b (o ∷ filter (is_between from to) offers) (filter (is_between from to) offers)) is

-- the units under a level in a window are those under the window's beginning and those of the offers in it
pub window_sum : (from top to : ℕ) (offers : List Offer) → from ≤ top → top ≤ to
    → units_under top (filter (is_between from to) offers) + units_under from offers ≡ units_under top offers
window_sum from top to [] f t = omega (arith, units_under-none top, units_under-none from)
window_sum from top to (o ∷ offers) f t =
    let rest = window_sum from top to offers f t in
    let whole = units_under-cons top o offers in
    let early = units_under-cons from o offers in
    elim (cases_lt o.level from) [
      | inl low ↦
          (let kept = ap (units_under top) (filter-no from to o offers (between-low from to o low)) in
          omega (arith, under-yes from o.level o.cap low, under-yes top o.level o.cap (omega arith)))
      | inr above ↦ elim (cases_lt o.level to) [
        | inl below ↦
            (let kept = ap (units_under top) (filter-yes from to o offers (between-yes from to o above below)) in
            omega (arith, units_under-cons top o (filter (is_between from to) offers), under-no from o.level o.cap above))
        | inr high ↦
            (let kept = ap (units_under top) (filter-no from to o offers (between-high from to o high)) in
            omega (arith, under-no from o.level o.cap above, under-no top o.level o.cap (omega arith)))
      ]
    ]

-- a window in a window
window_in : (from to f t : ℕ) (offers : List Offer) → from ≤ f → t ≤ to → filter (is_between f t) (filter (is_between from to) offers) ≡ filter (is_between f t) offers
window_in from to f t [] a b = refl
window_in from to f t (o ∷ offers) a b =
    let rest = window_in from to f t offers a b in
    elim (cases_lt o.level f) [
      | inl low ↦ out (between-low f t o low) rest
      | inr above ↦ elim (cases_lt o.level t) [
        | inl below ↦
            (let wide = between-yes from to o (omega arith) (omega arith) in
            let narrow = between-yes f t o above below in
            ap (filter (is_between f t)) (filter-yes from to o offers wide) ∙ filter-yes f t o (filter (is_between from to) offers) narrow
            ∙ ap (λ (xs : List Offer). o ∷ xs) rest ∙ sym (filter-yes f t o offers narrow))
        | inr high ↦ out (between-high f t o high) rest
      ]
    ]
  where
    out : is_between f t o ≡ false → filter (is_between f t) (filter (is_between from to) offers) ≡ filter (is_between f t) offers
        → filter (is_between f t) (filter (is_between from to) (o ∷ offers)) ≡ filter (is_between f t) (o ∷ offers)
    out fails rest = elim (cases_Bool (is_between from to o)) [
      | inl passes ↦
          ap (filter (is_between f t)) (filter-yes from to o offers passes) ∙ filter-no f t o (filter (is_between from to) offers) fails ∙ rest ∙ sym (filter-no f t o offers fails)
      | inr other ↦ ap (filter (is_between f t)) (filter-no from to o offers other) ∙ rest ∙ sym (filter-no f t o offers fails)
    ]

-- every offer is in the whole window
window_all : (offers : List Offer) → filter (is_between 0 TOP) offers ≡ offers
window_all [] = refl
window_all (o ∷ offers) =
    filter-yes 0 TOP o offers (between-yes 0 TOP o (omega arith) o.below_top) ∙ ap (λ (xs : List Offer). o ∷ xs) (window_all offers)

units_under-zero : (offers : List Offer) → units_under 0 offers ≡ 0
units_under-zero [] = units_under-none 0
units_under-zero (o ∷ offers) = omega (arith, units_under-cons 0 o offers, under-no 0 o.level o.cap (omega arith), units_under-zero offers)

pub units_under-few : (top : ℕ) (offers : List Offer) → units_under top offers ≤ length offers * 100000000
unfolding units_under
units_under-few top [] = omega arith
units_under-few top (o ∷ offers) =
    omega (arith, sum_by-cons (λ o. under top o.level o.cap) o offers, units_under-few top offers, under-le top o.level o.cap, o.within)

-- the units up to a level are those under the next one
pub up_to_next : (top : ℕ) (offers : List Offer) → units_up_to top offers ≡ units_under (top + 1) offers
unfolding units_up_to units_under
up_to_next top [] = refl
up_to_next top (o ∷ offers) =
    let rest = up_to_next top offers in
    let one : up_to top o.level o.cap ≡ under (top + 1) o.level o.cap = elim (cases_lt top o.level) [
      | inl above ↦ omega (arith, up_to-no top o.level o.cap above, under-no (top + 1) o.level o.cap (omega arith))
      | inr below ↦ omega (arith, up_to-yes top o.level o.cap below, under-yes (top + 1) o.level o.cap (omega arith))
    ] in
    omega (arith, sum_by-cons (λ o. up_to top o.level o.cap) o offers, sum_by-cons (λ o. under (top + 1) o.level o.cap) o offers)

-- the level that is looked for lies in a window, in which these offers are
pub record IsWindow (all : List Offer) (wanted from to below : ℕ) (inside : List Offer) : Type 0 where
  pub kept : inside ≡ filter (is_between from to) all
  pub ordered : from ≤ to
  pub within : to ≤ TOP
  pub below_is : below ≡ units_under from all
  pub too_few : below < wanted
  pub enough : wanted ≤ units_under to all

pub window_begins : (all : List Offer) (wanted : ℕ) → 1 ≤ wanted → wanted ≤ units_under TOP all → IsWindow all wanted 0 TOP 0 all
window_begins all wanted some enough = record {
  kept = sym (window_all all);
  ordered = omega arith;
  within = omega arith;
  below_is = sym (units_under-zero all);
  too_few = omega arith;
  enough = enough;
}

-- some offer is in it
pub window_some : (all : List Offer) (wanted from to below : ℕ) (inside : List Offer) → IsWindow all wanted from to below inside → 1 ≤ length inside
window_some all wanted from to below [] w =
    absurd (omega (arith, window_sum from to to all w.ordered (omega arith), ap (units_under to) w.kept, units_under-none to, w.below_is, w.too_few, w.enough))
window_some all wanted from to below (o ∷ inside) w = omega arith

-- each is
pub window_at : (all : List Offer) (wanted from to below i : ℕ) (inside : List Offer) (o : Offer) → IsWindow all wanted from to below inside → i < length inside
    → o ≡ get_or inside i o → (from ≤ o.level) × (o.level < to)
window_at all wanted from to below i inside o w in_list here =
    let all_pass = subst (All (λ x. is_between from to x ≡ true)) (sym w.kept) (filter_passes (is_between from to) all) in
    let passes = All-get_or (λ x. is_between from to x ≡ true) inside i o in_list all_pass in
    between-is from to o (ap (is_between from to) here ∙ passes)

-- the units under a level in it
pub window_under : (all : List Offer) (wanted from to below top : ℕ) (inside : List Offer) → IsWindow all wanted from to below inside → from ≤ top → top ≤ to
    → below + units_under top inside ≡ units_under top all
window_under all wanted from to below top inside w f t =
    omega (arith, window_sum from top to all f t, ap (units_under top) w.kept, w.below_is)

-- the part of it under a level, and the part over it
pub window_low : (all : List Offer) (wanted from to below top : ℕ) (inside next : List Offer) → IsWindow all wanted from to below inside → from ≤ top → top < to
    → wanted ≤ units_under top all → next ≡ filter (is_between from top) inside → IsWindow all wanted from top below next
window_low all wanted from to below top inside next w f t enough is = record {
  kept = is ∙ ap (filter (is_between from top)) w.kept ∙ window_in from to from top all (omega arith) (omega arith);
  ordered = f;
  within = omega (arith, w.within);
  below_is = w.below_is;
  too_few = w.too_few;
  enough = enough;
}

pub window_high : (all : List Offer) (wanted from to below top next_below : ℕ) (inside next : List Offer) → IsWindow all wanted from to below inside → from ≤ top → top < to
    → next_below ≡ units_under (top + 1) all → next_below < wanted → next ≡ filter (is_between (top + 1) to) inside → IsWindow all wanted (top + 1) to next_below next
window_high all wanted from to below top next_below inside next w f t below_is few is = record {
  kept = is ∙ ap (filter (is_between (top + 1) to)) w.kept ∙ window_in from to (top + 1) to all (omega arith) (omega arith);
  ordered = omega arith;
  within = w.within;
  below_is = below_is;
  too_few = few;
  enough = w.enough;
}

-- the offer in the middle of the window
pub tried_at : (all : List Offer) (wanted from to below len : ℕ) (offers : List Offer) (o : Offer) → IsWindow all wanted from to below (take len offers)
    → len ≤ length offers → o ≡ get_or offers (len / 2) o → (from ≤ o.level) × (o.level < to)
tried_at all wanted from to below len offers o w size here =
    let long : length (take len offers) ≡ len = omega (arith, length-take len offers) in
    let some = window_some all wanted from to below (take len offers) w in
    let middle : len / 2 < len = omega arith in
    window_at all wanted from to below (len / 2) (take len offers) o w (omega arith) (here ∙ sym (get_or-take len offers (len / 2) o middle))

pub window_long : (all : List Offer) (wanted from to below len : ℕ) (offers : List Offer) → IsWindow all wanted from to below (take len offers) → len ≤ length offers → len / 2 < length offers
window_long all wanted from to below len offers w size =
    omega (arith, length-take len offers, window_some all wanted from to below (take len offers) w)

-- the level that is looked for
pub reached_at : (wanted top : ℕ) (all : List Offer) → top ≤ TOP → units_under top all < wanted → wanted ≤ units_under (top + 1) all
    → IsReached wanted (units_under top all) (units_up_to top all) top
reached_at wanted top all within too_few enough = record { within = within; too_few = too_few; enough = omega (arith, up_to_next top all) }
