-- The answer of an explosion is the only one.
use Rattle.std.proofs.Common.{◌≡◌, ℕ, zero, suc, ◌+◌, ◌<◌, ◌≤◌, List, length, get_or, Ok, Err, refl, sym, ap, ◌∙◌, ⊎_elim, arith}
use Rattle.std.proofs.lemmas.Bool.{cases_lt}
use Rattle.std.proofs.lemmas.Grind.{same_number_lists}
use Rattle.std.specs.List.Sorted.{IsStrictlyIncreasing}
use Rattle.tqd_base.specs.declared.memory.Stop.TheVariants.{Refused, Memory}
use Rattle.bom_explode.specs.declared.fault.ExplodeFault.TheVariants.{Circle, NeedRange}
use Rattle.bom_explode.specs.Structure.{Structure, IsStructure}
use Rattle.bom_explode.specs.Needs.{IsGood, AreGoods, Needed}
use Rattle.bom_explode.specs.Search.{IsOn}
use Rattle.bom_explode.specs.Explosion.{IsTooMuch, IsExploded}
use Rattle.bom_explode.specs.Laws.{AnswersAgree}
use Rattle.bom_explode.proofs.Climbing.{needs_agree}
use Rattle.bom_explode.proofs.Collecting.{rising_pairs}

-- where all numbers of one rising list are in another, none has an earlier place there
place_after : (g h : List ℕ) → IsStrictlyIncreasing g → IsStrictlyIncreasing h → ((k : ℕ) → k < length g → IsOn h (get_or g k 0))
    → (k j : ℕ) → k < length g → j < length h → get_or h j 0 ≡ get_or g k 0 → k ≤ j
place_after g h rg rh on zero j b c e = omega arith
place_after g h rg rh on (suc k) j b c e =
    let p = on k (omega arith) in
    let low = place_after g h rg rh on k p.0 (omega arith) p.1 p.2 in
    ⊎_elim
    (λ (z : p.0 < j). omega arith)
    (λ (z : j ≤ p.0). let next : k + 1 ≡ suc k = omega arith in let w = ap (λ x. get_or g x 0) next in
    absurd (omega (arith, rising_pairs h rh j p.0 z p.1, rg k (omega arith), p.2)))
    (cases_lt p.0 j)

no_longer : (g h : List ℕ) → IsStrictlyIncreasing g → IsStrictlyIncreasing h → ((k : ℕ) → k < length g → IsOn h (get_or g k 0)) → length g ≤ length h
no_longer g h rg rh on = ⊎_elim
    (λ (z : length h < length g).
    let p = on (length h) z in absurd (omega (arith, place_after g h rg rh on (length h) p.0 z p.1 p.2, p.1)))
    (λ (z : length g ≤ length h). z)
    (cases_lt (length h) (length g))

-- rising lists of the same numbers are the same
same_rising : (g h : List ℕ) → IsStrictlyIncreasing g → IsStrictlyIncreasing h → ((k : ℕ) → k < length g → IsOn h (get_or g k 0))
    → ((k : ℕ) → k < length h → IsOn g (get_or h k 0)) → g ≡ h
same_rising g h rg rh on back =
    let a = no_longer g h rg rh on in
    let b = no_longer h g rh rg back in
    same_number_lists g h (omega arith) (λ k c.
    let d : k < length h = omega arith in
    let p = on k c in
    let q = back k d in
    let low = place_after g h rg rh on k p.0 c p.1 p.2 in
    let high = place_after h g rh rg back k q.0 d q.1 q.2 in
    omega (arith, rising_pairs h rh k p.0 low p.1, rising_pairs g rg k q.0 high q.1, p.2, q.2))

-- goods by needs that are the same at all names
module _ (s : Structure) (x y : ℕ → ℕ) (same : (n : ℕ) → n < s.names → x n ≡ y n) where
  IsGood-same : (n : ℕ) → IsGood s x n → IsGood s y n
  IsGood-same n g = record { inside = g.inside; bought = g.bought; needed = omega (arith, same n g.inside, g.needed) }

AreGoods-on : (s : Structure) (x y : ℕ → ℕ) (g u h v : List ℕ) → ((n : ℕ) → n < s.names → x n ≡ y n) → AreGoods s x g u → AreGoods s y h v
    → (k : ℕ) → k < length g → IsOn h (get_or g k 0)
AreGoods-on s x y g u h v same a b k c = b.all (get_or g k 0) (IsGood-same s x y same (get_or g k 0) (a.each k c))

same_goods : (s : Structure) (x y : ℕ → ℕ) (g u h v : List ℕ) → ((n : ℕ) → n < s.names → x n ≡ y n) → AreGoods s x g u → AreGoods s y h v → g ≡ h
same_goods s x y g u h v same a b = same_rising g h a.rising b.rising (AreGoods-on s x y g u h v same a b)
    (AreGoods-on s y x h v g u (λ n c. sym (same n c)) b a)

same_units : (s : Structure) (x y : ℕ → ℕ) (g u h v : List ℕ) → ((n : ℕ) → n < s.names → x n ≡ y n) → AreGoods s x g u → AreGoods s y h v → u ≡ v
same_units s x y g u h v same a b =
    let e = same_goods s x y g u h v same a b in
    same_number_lists u v (a.as_many ∙ ap length e ∙ sym b.as_many) (λ k c.
    let d : k < length g = omega (arith, a.as_many) in
    let d' : k < length h = omega (arith, ap length e) in
    a.needs k d ∙ same (get_or g k 0) (a.each k d).inside ∙ ap (λ xs. y (get_or xs k 0)) e ∙ sym (b.needs k d'))

same_needed : (a b : Needed) → a.goods ≡ b.goods → a.units ≡ b.units → a ≡ b
same_needed a b e f =
    let P : List ℕ → Needed = λ g. record { goods = g; units = a.units } in
    let Q : List ℕ → Needed = λ u. record { goods = b.goods; units = u } in
    ap P e ∙ ap Q f

same_exploded : (s : Structure) → IsStructure s → (a b : Needed) → IsExploded s a → IsExploded s b → a ≡ b
same_exploded s ok a b p q =
    let same = needs_agree s ok p.no_circle p.need q.need p.solves q.solves in
    same_needed a b (same_goods s p.need q.need a.goods a.units b.goods b.units same p.goods q.goods)
    (same_units s p.need q.need a.goods a.units b.goods b.units same p.goods q.goods)

same_too_much : (s : Structure) → IsStructure s → (m n : ℕ) → IsTooMuch s m → IsTooMuch s n → m ≡ n
same_too_much s ok m n p q =
    let same = needs_agree s ok p.no_circle p.need q.need p.solves q.solves in
    omega (
      arith,
      p.above.least n q.above.inside (omega (arith, same n q.above.inside, q.above.above)),
      q.above.least m p.above.inside (omega (arith, same m p.above.inside, p.above.above)),
    )

not_both : (s : Structure) → IsStructure s → (a : Needed) (n : ℕ) → IsExploded s a → IsTooMuch s n → ⊥
not_both s ok a n p q =
    let same = needs_agree s ok p.no_circle p.need q.need p.solves q.solves in
    omega (arith, same n q.above.inside, q.above.above, p.counted n q.above.inside)

pub answers_agree : AnswersAgree
answers_agree s ok (Ok a) (Ok b) p q f g = ap Ok (same_exploded s ok a b p q)
answers_agree s ok (Ok a) (Err (Refused (Circle n))) p q f g = absurd (p.no_circle n q.below_itself)
answers_agree s ok (Ok a) (Err (Refused (NeedRange n))) p q f g = absurd (not_both s ok a n p q)
answers_agree s ok (Err (Refused (Circle m))) (Ok b) p q f g = absurd (q.no_circle m p.below_itself)
answers_agree s ok (Err (Refused (Circle m))) (Err (Refused (Circle n))) p q f g =
    let e : m ≡ n = omega (arith, p.least n q.below_itself, q.least m p.below_itself) in ap (λ x. Err (Refused (Circle x))) e
answers_agree s ok (Err (Refused (Circle m))) (Err (Refused (NeedRange n))) p q f g = absurd (q.no_circle m p.below_itself)
answers_agree s ok (Err (Refused (NeedRange m))) (Ok b) p q f g = absurd (not_both s ok b m q p)
answers_agree s ok (Err (Refused (NeedRange m))) (Err (Refused (Circle n))) p q f g = absurd (p.no_circle n q.below_itself)
answers_agree s ok (Err (Refused (NeedRange m))) (Err (Refused (NeedRange n))) p q f g = ap (λ x. Err (Refused (NeedRange x))) (same_too_much s ok m n p q)
answers_agree s ok (Err Memory) y p q f g = absurd (f refl)
answers_agree s ok x (Err Memory) p q f g = absurd (g refl)
