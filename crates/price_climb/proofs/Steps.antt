-- The steps of a climb.
use Rattle.std.proofs.Common.{ℕ, ◌≡◌, ◌<◌, ◌≤◌, ◌+◌, ◌⊎◌, Bool, IsTrue, if◌then◌else◌, ℤ, pos, neg_ℤ, ◌+ℤ◌, ◌-ℤ◌, ◌≤ℤ◌, ◌<ℤ◌, subst, sym, ap, ◌∙◌, arith, inl, inr}
use Rattle.std.proofs.lemmas.Bool.{cases_lt}
use Rattle.std.proofs.lemmas.Int.{ints, by_lt_z}
use mir.Syntax.{w64}
use mir.Val.{to_z, of_z}
use Rattle.tqd_instance.specs.declared.job.Job.{Job}
use Rattle.interval_box.specs.declared.boxes.IntervalBox.{IntervalBox}
use Rattle.interval_box.specs.Ranges.{IsBoxOf}
use Rattle.bound_tree.specs.Prices.{Prices, IsPrice, Fits}
use Rattle.bound_tree.specs.Value.{value}
use Rattle.price_climb.specs.PriceList.{price_count}
use Rattle.price_climb.specs.Table.{TableState, value_of, IsPlace, price_after, after}
use Rattle.price_climb.specs.Climbing.{IsStep, IsNoRaise, StandsAt, StandsStill, EndsStill, EndsRisen}
use Rattle.price_climb.specs.Raises.{IsRaise, Raises, StandsWithin}
use Rattle.price_climb.proofs.Fitting.{price_count_few}

-- a step up, as the code has it
pub step_up : (step : ℤ) → IsStep step → to_z w64 (of_z w64 step) ≡ step
step_up step is =
    let some : pos 1 ≤ℤ step = is.some in
    let within : step ≤ℤ pos 4000000000000000 = is.within in
    omega (arith, ints)

-- a step down, as the code has it
pub step_down : (step : ℤ) → IsStep step → to_z w64 (of_z w64 (pos 0 -ℤ to_z w64 (of_z w64 step))) ≡ neg_ℤ step
step_down step is =
    let some : pos 1 ≤ℤ step = is.some in
    let within : step ≤ℤ pos 4000000000000000 = is.within in
    omega (arith, ints)

pub raises_up : (s : TableState) (step delta : ℤ) (place : ℕ) → IsStep step → IsPlace s place → delta ≡ step → IsRaise s place delta → Raises s step place delta
raises_up s step delta place is inside e raise =
    let some : pos 1 ≤ℤ step = is.some in
    let within : step ≤ℤ pos 4000000000000000 = is.within in
    let low : neg_ℤ (pos 4000000000000000) ≤ℤ delta = omega (arith, ints) in
    let high : delta ≤ℤ pos 4000000000000000 = omega (arith, ints) in
    record { is_place = inside; is_step = inl e; is_price = record { not_less = low; not_more = high }; is_raise = raise }

pub raises_down : (s : TableState) (step delta : ℤ) (place : ℕ) → IsStep step → IsPlace s place → delta ≡ neg_ℤ step → IsRaise s place delta → Raises s step place delta
raises_down s step delta place is inside e raise =
    let some : pos 1 ≤ℤ step = is.some in
    let within : step ≤ℤ pos 4000000000000000 = is.within in
    let low : neg_ℤ (pos 4000000000000000) ≤ℤ delta = omega (arith, ints) in
    let high : delta ≤ℤ pos 4000000000000000 = omega (arith, ints) in
    record { is_place = inside; is_step = inr e; is_price = record { not_less = low; not_more = high }; is_raise = raise }

-- a change that is no raise gives no greater value
pub no_raise : (s : TableState) (place : ℕ) (delta : ℤ) → (IsRaise s place delta → ⊥) → IsPrice (price_after s place delta) → value_of (after s place delta) ≤ℤ value_of s
no_raise s place delta never inside =
    by_lt_z (value_of s) (value_of (after s place delta)) (λ higher. absurd (never (record { in_range = inside; higher = higher }))) (λ le. le)

-- where no step in two ranges raises the value, which meet at a place
pub stands_still : (s : TableState) (step : ℤ) (from middle to n : ℕ) → StandsWithin s step from to → StandsWithin s step 0 middle → from ≤ middle ⊎ to ≤ middle → n < to → StandsAt s.job s.area s.row step n
stands_still s step from middle to n above below meet inside = elim (cases_lt n middle) [
  | inl before ↦ below n (omega arith) before
  | inr later ↦ above n (elim meet [
    | inl at ↦ omega arith
    | inr past ↦ absurd (omega arith)
  ]) inside
]

-- where a step raises the value, the row does not stand still
pub raise_moves : (s : TableState) (step delta : ℤ) (place : ℕ) → Raises s step place delta → StandsStill s.job s.area s.row step → ⊥
raise_moves s step delta place r still = elim r.is_step [
  | inl up ↦ too_high (value_of s) (value_of (after s place delta)) r.is_raise.higher
      (subst (IsNoRaise s.job s.area s.row place) (sym up) (still place r.is_place).up r.is_raise.in_range)
  | inr down ↦ too_high (value_of s) (value_of (after s place delta)) r.is_raise.higher
      (subst (IsNoRaise s.job s.area s.row place) (sym down) (still place r.is_place).down r.is_raise.in_range)
] where
  too_high : (a b : ℤ) → a <ℤ b → b ≤ℤ a → ⊥
  too_high a b less le = omega (arith, ints)

-- a change that raises the value is made
pub change_made : (r : Bool) (new old : TableState) (place : ℕ) (delta : ℤ) → IsTrue r → new ≡ (if r then after old place delta else old) → new ≡ after old place delta
change_made r new old place delta t e = rw t at e

-- and the value is higher by 1 at least
pub rises_more : (job : Job) (area : IntervalBox) (from : Prices) (n : ℕ) (s new : TableState) (place : ℕ) (delta : ℤ) → s.job ≡ job → s.area ≡ area → new ≡ after s place delta
    → value_of s <ℤ value_of (after s place delta) → (value job area from +ℤ pos n) ≤ℤ value job area s.row → (value job area from +ℤ pos (n + 1)) ≤ℤ value job area new.row
rises_more job area from n s new place delta j a made higher risen =
    let before : value_of s ≡ value job area s.row = ap (λ z. value z s.area s.row) j ∙ ap (λ z. value job z s.row) a in
    let next : value job area new.row ≡ value_of (after s place delta) =
    ap (λ (z : TableState). value job area z.row) made ∙ sym (ap (λ z. value z s.area (after s place delta).row) j ∙ ap (λ z. value job z (after s place delta).row) a) in
    omega (arith, ints)

pub place_few : (s : TableState) (job : Job) (area : IntervalBox) (place : ℕ) → s.job ≡ job → s.area ≡ area → IsBoxOf job area → IsPlace s place → place < 2024
place_few s job area place j a b inside =
    let count : price_count s.job s.area ≡ price_count job area = ap (λ z. price_count z s.area) j ∙ ap (price_count job) a in
    omega (arith, price_count_few job area b)

stands_in : (s : TableState) (job : Job) (area : IntervalBox) (row : Prices) (step step' : ℤ) → s.job ≡ job → s.area ≡ area → s.row ≡ row → step' ≡ step
    → StandsStill s.job s.area s.row step' → StandsStill job area row step
stands_in s job area row step step' j a r e still =
    subst (StandsStill job area row) e (subst (λ (z : Prices). StandsStill job area z step') r
    (subst (λ (z : IntervalBox). StandsStill job z s.row step') a (subst (λ (z : Job). StandsStill z s.area s.row step') j still)))

fits_in : (s : TableState) (job : Job) (area : IntervalBox) (row : Prices) → s.job ≡ job → s.area ≡ area → Fits s.job s.area row → Fits job area row
fits_in s job area row j a fits = subst (λ (z : IntervalBox). Fits job z row) a (subst (λ (z : Job). Fits z s.area row) j fits)

pub ends_still : (s : TableState) (job : Job) (area : IntervalBox) (from row : Prices) (step step' : ℤ) (n : ℕ) → s.job ≡ job → s.area ≡ area → row ≡ s.row → step' ≡ step
    → (value job area from +ℤ pos n) ≤ℤ value job area s.row → Fits s.job s.area row → StandsStill s.job s.area s.row step' → EndsStill job area step from row
ends_still s job area from row step step' n j a r e risen fits still = record {
  fits = fits_in s job area row j a fits;
  not_lower = omega (arith, ints, ap (value job area) r);
  still = stands_in s job area row step step' j a (sym r) e still;
}

pub ends_risen : (s : TableState) (job : Job) (area : IntervalBox) (from row : Prices) (step step' delta : ℤ) (n place rounds : ℕ) → s.job ≡ job → s.area ≡ area → row ≡ s.row → step' ≡ step
    → n ≡ rounds → (value job area from +ℤ pos n) ≤ℤ value job area s.row → Fits s.job s.area row → Raises s step' place delta → EndsRisen job area step rounds from row
ends_risen s job area from row step step' delta n place rounds j a r e all risen fits raise = record {
  fits = fits_in s job area row j a fits;
  higher = omega (arith, ints, ap (value job area) r);
  moves = λ still. raise_moves s step' delta place raise
      (subst (StandsStill s.job s.area s.row) (sym e) (subst (λ (z : Prices). StandsStill s.job s.area z step) r
      (subst (λ (z : IntervalBox). StandsStill s.job z row step) (sym a) (subst (λ (z : Job). StandsStill z area row step) (sym j) still))));
}

-- one place more at which no step raises the value
pub stands_more : (s : TableState) (step : ℤ) (from place : ℕ) → StandsWithin s step from place → StandsAt s.job s.area s.row step place → StandsWithin s step from (place + 1)
stands_more s step from place within here n later inside = elim (cases_lt n place) [
  | inl before ↦ within n later before
  | inr last ↦ (let at : place ≡ n = omega arith in subst (StandsAt s.job s.area s.row step) at here)
]
