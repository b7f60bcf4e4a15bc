-- Offers whose levels are in a window are put at the front, one after another.
use Rattle.std.proofs.Common.{ℕ, ◌≡◌, ◌+◌, ◌<◌, ◌≤◌, Bool, true, false, cond, if◌then◌else◌, List, [], ◌∷◌, ◌++◌, length, get_or, take, refl, ap, ap₂, sym, ◌∙◌, arith, append-nil, length-take, get_or-take}
use Rattle.std.specs.List.{filter, swap}
use Rattle.std.specs.List.Sorted.{IsPermutation}
use Rattle.std.proofs.lemmas.List.{take_more, same_lists, get_or_default}
use Rattle.std.proofs.lemmas.List.Edits.{swapped_from_swap, length-swap}
use Rattle.std.proofs.lemmas.List.Elements.{filter_more}
use Rattle.std.proofs.lemmas.List.Sorted.{IsPermutation-refl, IsPermutation-swap, IsPermutation-trans, length_permutation}
use Rattle.lagrangian.specs.declared.offer.Offer.{Offer}
use Rattle.lagrangian.specs.Levels.{is_between}

-- the first n offers are looked through: those that pass stand at the front
pub record IsKeptTo (from to : ℕ) (old new : List Offer) (count n : ℕ) : Type 0 where
  pub same : IsPermutation old new
  pub behind : count ≤ n
  pub front : take count new ≡ filter (is_between from to) (take n old)
  pub rest : (k : ℕ) (d : Offer) → n ≤ k → get_or new k d ≡ get_or old k d

pub kept_none : (from to : ℕ) (offers : List Offer) → IsKeptTo from to offers offers 0 0
kept_none from to offers = record { same = IsPermutation-refl offers; behind = omega arith; front = refl; rest = λ k d from. refl }

-- one offer more is looked through
seen : (from to : ℕ) (old : List Offer) (n : ℕ) (o : Offer) → n < length old → get_or old n o ≡ o
    → filter (is_between from to) (take (n + 1) old) ≡ filter (is_between from to) (take n old) ++ cond (is_between from to o) (o ∷ []) []
seen from to old n o below was =
    filter_more (is_between from to) old n o below
    ∙ ap (λ (x : Offer). filter (is_between from to) (take n old) ++ cond (is_between from to x) (x ∷ []) []) was

added : (next front : List Offer) (count : ℕ) (o : Offer) → count < length next → take count next ≡ front → get_or next count o ≡ o
    → take (count + 1) next ≡ front ++ o ∷ []
added next front count o below is at = take_more next count o below ∙ ap₂ (λ (xs : List Offer) (x : Offer). xs ++ x ∷ []) is at

-- where it passes it is the next of those at the front
front_next : (next front : List Offer) (count more : ℕ) (o : Offer) (passes : Bool) → count < length next → take count next ≡ front → get_or next count o ≡ o
    → more ≡ (if passes then 1 else 0) → take (count + more) next ≡ front ++ cond passes (o ∷ []) []
front_next next front count more o true below is at adds =
    let one : count + more ≡ count + 1 = omega arith in
    ap (λ m. take m next) one ∙ added next front count o below is at
front_next next front count more o false below is at adds =
    let none : count + more ≡ count = omega arith in
    ap (λ m. take m next) none ∙ is ∙ sym (append-nil front)

few_more : (passes : Bool) (more : ℕ) → more ≡ (if passes then 1 else 0) → more ≤ 1
few_more true more adds = omega arith
few_more false more adds = omega arith

-- an exchange of two places leaves those before them, and those behind them
before_same : (new next : List Offer) (count n : ℕ) (o : Offer) → count ≤ n → n < length new → next ≡ swap new count n → take count next ≡ take count new
before_same new next count n o behind below is =
    let swapped = swapped_from_swap new next count n o (omega arith) below is in
    let long : length next ≡ length new = ap length is ∙ length-swap new count n in
    same_lists (take count next) (take count new) (omega (arith, length-take count next, length-take count new))
    (λ m d inside. (let early : m < count = omega (arith, length-take count next) in
    get_or-take count next m d early ∙ get_or_default next m d o (omega arith) ∙ swapped.2 m (λ e. omega arith) (λ e. omega arith)
    ∙ get_or_default new m o d (omega arith) ∙ sym (get_or-take count new m d early)))

pub kept_next : (from to : ℕ) (old new next : List Offer) (count n more : ℕ) (o : Offer) → n < length old → IsKeptTo from to old new count n
    → o ≡ get_or new n o → next ≡ swap new count n → more ≡ (if is_between from to o then 1 else 0) → IsKeptTo from to old next (count + more) (n + 1)
kept_next from to old new next count n more o below k here is adds =
    let size = length_permutation old new k.same in
    let behind = k.behind in
    let inside : n < length new = omega arith in
    let first : count < length new = omega arith in
    let long : length next ≡ length new = ap length is ∙ length-swap new count n in
    let at : get_or next count o ≡ o = (swapped_from_swap new next count n o first inside is).0 ∙ sym here in
    let was : get_or old n o ≡ o = sym (k.rest n o (omega arith)) ∙ sym here in
    let front : take count next ≡ filter (is_between from to) (take n old) = before_same new next count n o behind inside is ∙ k.front in
    record {
      same = IsPermutation-trans old new next k.same (IsPermutation-swap new next count n first inside is);
      behind = omega (arith, few_more (is_between from to o) more adds);
      front = front_next next (filter (is_between from to) (take n old)) count more o (is_between from to o) (omega arith) front at adds ∙ sym (seen from to old n o below was);
      rest = λ m d late. (swapped_from_swap new next count n d first inside is).2 m (λ e. omega arith) (λ e. omega arith) ∙ k.rest m d (omega arith);
    }
