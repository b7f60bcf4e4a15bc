-- The place of a good among the goods, which rise.
use Rattle.std.proofs.Common.{ℕ, ◌≡◌, ◌≢◌, ◌+◌, ◌<◌, ◌≤◌, Bool, true, false, eqb, List, length, get_or, Option, None, Some, refl, sym, ap, ◌∙◌, ⊎_elim, arith}
use Rattle.std.proofs.lemmas.Bool.{cases_lt, eq-eqb, eqb-true, ne_eqb, le-ltb}
use Rattle.std.proofs.lemmas.List.Folds.{list_any_at, list_any_none}
use Rattle.std.proofs.lemmas.List.Sums.{passes_at_first}
use Rattle.std.proofs.lemmas.Grind.{get_or_default_zero}
use Rattle.std.specs.Prelude.{position, slice_index, MatchOption}
use Rattle.std.specs.List.{position_or_len, list_any}
use Rattle.std.specs.List.Sorted.{IsStrictlyIncreasing}
use Rattle.bom_reader.proofs.Places.{place_inside, place_past, position-inside}
use Rattle.bom_explode.proofs.Collecting.{rising_pairs}

-- two places of one number are one
one_place : (goods : List ℕ) → IsStrictlyIncreasing goods → (i j : ℕ) → i < length goods → j < length goods → get_or goods i 0 ≡ get_or goods j 0 → i ≡ j
one_place goods rising i j inside far same = ⊎_elim
    (λ (below : i < j). absurd (omega (arith, rising_pairs goods rising (i + 1) j (omega arith) far, rising i (omega arith), same)))
    (λ (above : j ≤ i). ⊎_elim
    (λ (below : j < i). absurd (omega (arith, rising_pairs goods rising (j + 1) i (omega arith) inside, rising j (omega arith), same)))
    (λ (last : i ≤ j). omega arith)
    (cases_lt j i))
    (cases_lt i j)

place_of_good : (goods : List ℕ) → IsStrictlyIncreasing goods → (name k : ℕ) → k < length goods → slice_index goods k ≡ name → Some k ≡ position (λ good. eqb good name) goods
place_of_good goods rising name k inside is =
    let test : ℕ → Bool = λ good. eqb good name in
    let any : list_any test goods ≡ true = list_any_at test goods k 0 inside (eq-eqb (get_or goods k 0) name is) in
    let at = position_or_len test goods in
    let there : at < length goods = place_inside test goods any in
    let named : get_or goods at 0 ≡ name = eqb-true (get_or goods at 0) name (passes_at_first test goods 0 there) in
    let same : k ≡ at = one_place goods rising k at inside there (is ∙ sym named) in
    ap (λ (n : ℕ). Some n) same ∙ sym (position-inside test goods there)

no_place : (goods : List ℕ) → (name : ℕ) → ((k : ℕ) → k < length goods → slice_index goods k ≢ name) → None ≡ position (λ good. eqb good name) goods
no_place goods name other =
    let test : ℕ → Bool = λ good. eqb good name in
    let none : list_any test goods ≡ false = list_any_none test goods (λ k d inside. ne_eqb (get_or goods k d) name (λ e. other k inside (sym (get_or_default_zero goods k d inside) ∙ e))) in
    let past : length goods ≤ position_or_len test goods = omega (arith, place_past test goods none) in
    rw (le-ltb (position_or_len test goods) (length goods) past) refl

pub good_place : (goods : List ℕ) → IsStrictlyIncreasing goods → (name : ℕ) (o : Option ℕ)
    → MatchOption o ((k : ℕ) → k < length goods → slice_index goods k ≢ name) (λ k. (k < length goods) × (slice_index goods k ≡ name))
    → o ≡ position (λ good. eqb good name) goods
good_place goods rising name None m = no_place goods name m
good_place goods rising name (Some k) m = place_of_good goods rising name k m.0 m.1
