use Rattle.std.proofs.Common.{◌≡◌, ℕ, ◌+◌, ◌-◌, ◌*◌, ◌<◌, ◌≤◌, ◌≢◌, min, List, length, get_or, set, cond, eqb, refl, subst, sym, ap, ⊎_elim, arith}
use Rattle.std.proofs.lemmas.Bool.{cases_lt, cases_eq, eq-eqb, ne_eqb}
use Rattle.std.proofs.lemmas.Grind.{common_steps}
use Rattle.std.proofs.lemmas.List.Sums.{sum_by-set, count_by-le-length}
use Rattle.std.proofs.lemmas.Nat.{mul-le}
use Rattle.std.specs.List.{sum_by}
use Rattle.flow_prices.specs.declared.narrow.TheConstants.{UNMADE}
use Rattle.flow_prices.specs.Narrow.{IsLeastAt, IsNarrowed, AreNarrowed}

set_same : (xs : List ℕ) (i x v : ℕ) → i < length xs → v ≡ i → get_or (set xs i x) v 0 ≡ x
set_same xs i x v l e = grind (arith, common_steps)

set_other : (xs : List ℕ) (i x v : ℕ) → v ≢ i → get_or (set xs i x) v 0 ≡ get_or xs v 0
set_other xs i x v n = grind (arith, common_steps)

set_length : (xs : List ℕ) (i x n : ℕ) → length xs ≡ n → length (set xs i x) ≡ n
set_length xs i x n e = grind (arith, common_steps)

-- how many numbers are not made
abbrev pub one_unmade : ℕ → ℕ
one_unmade r = cond (eqb r UNMADE) 1 0

abbrev pub unmade : List ℕ → ℕ
unmade narrowed = sum_by one_unmade narrowed

one_at : (r : ℕ) → r ≡ UNMADE → one_unmade r ≡ 1
one_at r e = rw (eq-eqb r UNMADE e)

none_at : (r : ℕ) → r < UNMADE → one_unmade r ≡ 0
none_at r l = rw (ne_eqb r UNMADE (λ z. omega arith))

pub unmade-set : (narrowed : List ℕ) (v t : ℕ) → v < length narrowed → get_or narrowed v 0 ≡ UNMADE → t < UNMADE → unmade (set narrowed v t) + 1 ≡ unmade narrowed
unmade-set narrowed v t h u l =
    let s = sum_by-set one_unmade narrowed v t 0 h in
    let p = one_at (get_or narrowed v 0) u in
    let q = none_at t l in
    omega arith

pub unmade-le : (narrowed : List ℕ) → unmade narrowed ≤ length narrowed
unmade-le narrowed = count_by-le-length (λ r. eqb r UNMADE) narrowed

-- some numbers are made: the greatest of them stands for `last`, and is `top`
pub record IsPart (numbers : List ℕ) (gap : ℕ) (narrowed : List ℕ) (last top : ℕ) : Type 0 where
  pub length_same : length narrowed ≡ length numbers
  pub last_most : last ≤ UNMADE
  pub bound : top ≤ length numbers * gap
  pub none : last ≡ UNMADE → (v : ℕ) → v < length numbers → get_or narrowed v 0 ≡ UNMADE
  pub zero : last ≡ UNMADE → top ≡ 0
  pub range : last < UNMADE → top + (unmade narrowed * gap + gap) ≤ length numbers * gap
  pub most : (v : ℕ) → v < length numbers → get_or narrowed v 0 ≤ UNMADE
  pub below : (u : ℕ) → u < length numbers → get_or narrowed u 0 < UNMADE → (get_or numbers u 0 ≤ last) × IsNarrowed gap (get_or numbers u 0) last (get_or narrowed u 0) top
  pub above : last < UNMADE → (v : ℕ) → v < length numbers → get_or narrowed v 0 ≡ UNMADE → last ≤ get_or numbers v 0
  pub each : (u w : ℕ) → u < length numbers → w < length numbers → get_or narrowed u 0 < UNMADE → get_or narrowed w 0 < UNMADE
      → get_or numbers u 0 ≤ get_or numbers w 0 → IsNarrowed gap (get_or numbers u 0) (get_or numbers w 0) (get_or narrowed u 0) (get_or narrowed w 0)

-- a number that is no less than the last one is narrowed to what is added to the top
joined : (gap x last a top z : ℕ) → x ≤ last → IsNarrowed gap x last a top → last ≤ z → IsNarrowed gap x z a (top + min (z - last) gap)
joined gap x last a top z l n k = record { order = omega (arith, n.order); most = omega (arith, n.most); least = omega (arith, n.least) }

-- and one that is equal to the last one, to the top
level : (gap x last a top z : ℕ) → x ≤ last → IsNarrowed gap x last a top → last ≤ z → z ≤ x → IsNarrowed gap z x (top + min (z - last) gap) a
level gap x last a top z l n k m = record { order = omega (arith, n.most); most = omega (arith, n.order); least = omega (arith, n.most) }

abbrev pub next_top : List ℕ → ℕ → ℕ → ℕ → ℕ → ℕ
next_top numbers gap last top v = top + min (get_or numbers v 0 - last) gap

pub IsPart-next : (numbers : List ℕ) (gap : ℕ) (narrowed : List ℕ) (last top v t : ℕ) → IsPart numbers gap narrowed last top → IsLeastAt numbers narrowed v
    → get_or numbers v 0 < UNMADE → t ≡ next_top numbers gap last top v → t < UNMADE → IsPart numbers gap (set narrowed v t) (get_or numbers v 0) t
IsPart-next numbers gap narrowed last top v t p b s e f =
    let n = length numbers in
    let same : (u : ℕ) → u ≡ v → get_or (set narrowed v t) u 0 ≡ t = λ u z. set_same narrowed v t u (omega (arith, p.length_same, b.inside)) z in
    let other : (u : ℕ) → u ≢ v → get_or (set narrowed v t) u 0 ≡ get_or narrowed u 0 = λ u z. set_other narrowed v t u z in
    let count = unmade-set narrowed v t (omega (arith, p.length_same, b.inside)) b.unmade f in
    let ge : 1 ≤ unmade narrowed = omega arith in
    let all = unmade-le narrowed in
    let made : (u : ℕ) → u < n → get_or narrowed u 0 < UNMADE → last < UNMADE = λ u h k. ⊎_elim
    (λ (z : last ≡ UNMADE). absurd (omega (arith, p.none z u h)))
    (λ (z : last ≢ UNMADE). omega (arith, p.last_most))
    (cases_eq last UNMADE) in
    let room : t + (unmade (set narrowed v t) * gap + gap) ≤ n * gap = ⊎_elim
    (λ (z : last ≡ UNMADE).
    let m = mul-le (unmade narrowed) gap n gap (omega (arith, p.length_same)) (omega arith) in
    let q = ap (λ x. x * gap) count in
    omega (arith, p.zero z))
    (λ (z : last ≢ UNMADE).
    let q = ap (λ x. x * gap) count in
    omega (arith, p.range (omega (arith, p.last_most))))
    (cases_eq last UNMADE) in
    let over : (u : ℕ) → u < n → get_or narrowed u 0 < UNMADE → IsNarrowed gap (get_or numbers u 0) (get_or numbers v 0) (get_or narrowed u 0) t = λ u h k.
    let o = p.below u h k in
    subst (λ (x : ℕ). IsNarrowed gap (get_or numbers u 0) (get_or numbers v 0) (get_or narrowed u 0) x) (sym e)
    (joined gap (get_or numbers u 0) last (get_or narrowed u 0) top (get_or numbers v 0) o.0 o.1 (p.above (made u h k) v b.inside b.unmade)) in
    record {
      length_same = set_length narrowed v t n p.length_same;
      last_most = omega arith;
      bound = omega arith;
      none = λ z. absurd (omega arith);
      zero = λ z. absurd (omega arith);
      range = λ z. room;
      most = λ u h. ⊎_elim
          (λ (z : u ≡ v). omega (arith, same u z))
          (λ (z : u ≢ v). omega (arith, other u z, p.most u h))
          (cases_eq u v);
      below = λ u h k. ⊎_elim
          (λ (z : u ≡ v). let q = ap (λ x. get_or numbers x 0) z in let r = same u z in
          (omega arith, record { order = omega arith; most = omega arith; least = omega arith }))
          (λ (z : u ≢ v). let r = other u z in let m : get_or narrowed u 0 < UNMADE = omega arith in let o = over u h m in (
            omega (arith, (p.below u h m).0, p.above (made u h m) v b.inside b.unmade),
            record { order = omega (arith, o.order); most = omega (arith, o.most); least = omega (arith, o.least) },
          ))
          (cases_eq u v);
      above = λ z w h k. ⊎_elim
          (λ (y : w ≡ v). absurd (omega (arith, same w y)))
          (λ (y : w ≢ v). b.least w h (omega (arith, other w y)))
          (cases_eq w v);
      each = λ u w hu hw ku kw le. ⊎_elim
          (λ (y : w ≡ v). let q = ap (λ x. get_or numbers x 0) y in let r = same w y in ⊎_elim
          (λ (z : u ≡ v). let g = ap (λ x. get_or numbers x 0) z in let c = same u z in
          record { order = omega arith; most = omega arith; least = omega arith })
          (λ (z : u ≢ v). let c = other u z in let o = over u hu (omega arith) in
          record { order = omega (arith, o.order); most = omega (arith, o.most); least = omega (arith, o.least) })
          (cases_eq u v))
          (λ (y : w ≢ v). let r = other w y in let m : get_or narrowed w 0 < UNMADE = omega arith in ⊎_elim
          (λ (z : u ≡ v). let g = ap (λ x. get_or numbers x 0) z in let c = same u z in
          let d = p.below w hw m in
          let o = level gap (get_or numbers w 0) last (get_or narrowed w 0) top (get_or numbers v 0) d.0 d.1 (p.above (made w hw m) v b.inside b.unmade) (omega arith) in
          record { order = omega (arith, o.order); most = omega (arith, o.most); least = omega (arith, o.least) })
          (λ (z : u ≢ v). let c = other u z in let o = p.each u w hu hw (omega arith) m le in
          record { order = omega (arith, o.order); most = omega (arith, o.most); least = omega (arith, o.least) })
          (cases_eq u v))
          (cases_eq w v);
    }

pub IsPart-none : (numbers : List ℕ) (gap : ℕ) (narrowed : List ℕ) → length narrowed ≡ length numbers → ((v : ℕ) → v < length numbers → get_or narrowed v 0 ≡ UNMADE)
    → IsPart numbers gap narrowed UNMADE 0
IsPart-none numbers gap narrowed l h = record {
  length_same = l;
  last_most = omega arith;
  bound = omega arith;
  none = λ z. h;
  zero = λ z. refl;
  range = λ z. absurd (omega arith);
  most = λ v k. omega (arith, h v k);
  below = λ u k m. absurd (omega (arith, h u k));
  above = λ z. absurd (omega arith);
  each = λ u w hu hw ku. absurd (omega (arith, h u hu));
}

pub AreNarrowed-all : (numbers : List ℕ) (gap : ℕ) (narrowed : List ℕ) (last top : ℕ) → IsPart numbers gap narrowed last top
    → ((v : ℕ) → v < length numbers → get_or narrowed v 0 ≡ UNMADE → UNMADE ≤ get_or numbers v 0) → ((v : ℕ) → v < length numbers → get_or numbers v 0 < UNMADE)
    → AreNarrowed numbers gap narrowed
AreNarrowed-all numbers gap narrowed last top p none small =
    let n = length numbers in
    let made : (v : ℕ) → v < n → get_or narrowed v 0 < UNMADE = λ v h. ⊎_elim
    (λ (z : get_or narrowed v 0 < UNMADE). z)
    (λ (z : UNMADE ≤ get_or narrowed v 0). absurd (omega (arith, none v h (omega (arith, p.most v h)), small v h)))
    (cases_lt (get_or narrowed v 0) UNMADE) in
    record {
      length_same = p.length_same;
      each = λ u v hu hv le. p.each u v hu hv (made u hu) (made v hv) le;
      most = λ v h.
          let o = p.below v h (made v h) in
          let w : last < UNMADE = ⊎_elim
          (λ (z : last ≡ UNMADE). absurd (omega (arith, p.none z v h, made v h)))
          (λ (z : last ≢ UNMADE). omega (arith, p.last_most))
          (cases_eq last UNMADE) in
          let e : n - 1 + 1 ≡ n = omega arith in
          let q = ap (λ x. x * gap) e in
          omega (arith, p.range w, o.1.order);
    }
