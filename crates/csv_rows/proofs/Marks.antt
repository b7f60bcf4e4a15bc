-- A UTF-8 mark at the start of bytes.
use Rattle.std.proofs.Common.{◌≡◌, ℕ, Bool, true, false, ◌&&◌, eqb, List, [], ◌∷◌, drop, refl, sym, ◌∙◌}
use Rattle.std.proofs.lemmas.Bool.{and_parts, eqb-true, false≢true, true≢false}
use Rattle.std.specs.Bool.{nat_eq}
use Rattle.std.specs.List.{starts_with}
use Rattle.csv.specs.Reading.{is_bom, strip_bom}

abbrev pub mark : List ℕ
mark = 239 ∷ 187 ∷ 191 ∷ []

abbrev pub marked : (bytes : List ℕ) → starts_with nat_eq bytes mark ≡ true → strip_bom bytes ≡ drop 3 bytes
unfolding strip_bom
marked [] e = absurd (true≢false (sym e))
marked (a ∷ []) e = absurd (false≢true (and_parts (eqb 239 a) false e).1)
marked (a ∷ b ∷ []) e = absurd (false≢true (and_parts (eqb 187 b) false (and_parts (eqb 239 a) (eqb 187 b && false) e).1).1)
marked (a ∷ b ∷ c ∷ rest) e =
    let first = and_parts (eqb 239 a) (eqb 187 b && (eqb 191 c && true)) e in
    let second = and_parts (eqb 187 b) (eqb 191 c && true) first.1 in
    let third = and_parts (eqb 191 c) true second.1 in
    let is_a : a ≡ 239 = sym (eqb-true 239 a first.0) in
    let is_b : b ≡ 187 = sym (eqb-true 187 b second.0) in
    let is_c : c ≡ 191 = sym (eqb-true 191 c third.0) in
    rw (is_a, is_b, is_c) refl

stays : (a b c : ℕ) (rest : List ℕ) (v : Bool) → is_bom a b c ≡ v → starts_with nat_eq (a ∷ b ∷ c ∷ rest) mark ≡ false → strip_bom (a ∷ b ∷ c ∷ rest) ≡ a ∷ b ∷ c ∷ rest
unfolding strip_bom
stays a b c rest true is e =
    let outer = and_parts (eqb a 239 && eqb b 187) (eqb c 191) is in
    let inner = and_parts (eqb a 239) (eqb b 187) outer.0 in
    let is_a : a ≡ 239 = eqb-true a 239 inner.0 in
    let is_b : b ≡ 187 = eqb-true b 187 inner.1 in
    let is_c : c ≡ 191 = eqb-true c 191 outer.1 in
    let holds : starts_with nat_eq (a ∷ b ∷ c ∷ rest) mark ≡ true = rw (is_a, is_b, is_c) refl in
    absurd (true≢false (sym holds ∙ e))
stays a b c rest false is e = rw is refl

pub unmarked : (bytes : List ℕ) → starts_with nat_eq bytes mark ≡ false → strip_bom bytes ≡ bytes
unfolding strip_bom
unmarked [] e = refl
unmarked (a ∷ []) e = refl
unmarked (a ∷ b ∷ []) e = refl
unmarked (a ∷ b ∷ c ∷ rest) e = stays a b c rest (is_bom a b c) refl e
