-- A stack of boxes has room for every tree.
use Rattle.std.proofs.Common.{ℕ, suc, zero, ◌≡◌, ◌+◌, ◌-◌, ◌<◌, ◌≤◌, List, [], ◌∷◌, ◌++◌, length, Option, Some, None, refl, ap, sym, ◌∙◌, subst, arith, inl, inr, append-nil, length-set}
use Rattle.std.specs.Prelude.{Bool, true, if◌then◌else◌, reverse}
use Rattle.std.specs.Option.{option_to_list}
use Rattle.std.proofs.lemmas.Bool.{cases_lt, cases_eq}
use Rattle.std.proofs.lemmas.List.{reverse-append, length-reverse}
use Rattle.tqd_base.specs.Sum.{sum_to}
use Rattle.tqd_instance.specs.declared.job.Job.{Job}
use Rattle.tqd_instance.proofs.SumLemmas.{sum_to-suc, sum_to-le, sum_to-bound}
use Rattle.interval_box.specs.declared.boxes.IntervalBox.{IntervalBox}
use Rattle.tree_checker.specs.declared.stack.TheConstants.{BOXES_MAX}
use Rattle.interval_box.specs.Ranges.{low_of, high_of}
use Rattle.interval_box.specs.Halves.{IsProper, low_half, high_half}
use Rattle.interval_box.proofs.Places.{low_half-low, low_half-high, low_half-high_other, high_half-high, high_half-low, high_half-low_other}
use Rattle.bound_tree.specs.Root.{root_of}
use Rattle.tree_checker.specs.Stack.{splits_left, HasPlaces, IsRoomy, IsSplitFirst, without_first}
use Rattle.bound_tree.proofs.Roots.{root_lows, root_highs, root_width}

-- a sum with one value below another's, and none above
sum_to-less : (n : ℕ) (f g : ℕ → ℕ) (i : ℕ) → i < n → f i < g i → ((k : ℕ) → f k ≤ g k) → sum_to n f < sum_to n g
sum_to-less zero f g i below less le = absurd (omega arith)
sum_to-less (suc n) f g i below less le = elim (cases_lt i n) [
  | inl before ↦ omega (arith, sum_to-suc n f, sum_to-suc n g, sum_to-less n f g i before less le, le n)
  | inr past ↦ (
      let same : n ≡ i = omega arith in
      let here : f n < g n = subst (λ (k : ℕ). f k < g k) (sym same) less in
      omega (arith, sum_to-suc n f, sum_to-suc n g, sum_to-le n f g (λ k b. le k)))
]

low_width : (area : IntervalBox) (i s k : ℕ) → HasPlaces area → i < 64 → IsProper area i s
    → high_of (low_half area i s) k - low_of (low_half area i s) k ≤ high_of area k - low_of area k
low_width area i s k p below proper = elim (cases_eq k i) [
  | inl here ↦ omega (arith, low_half-low area i s k, low_half-high area i s k here (omega (arith, p.highs)), ap (high_of area) here, proper.below_high)
  | inr other ↦ omega (arith, low_half-low area i s k, low_half-high_other area i s k other)
]

high_width : (area : IntervalBox) (i s k : ℕ) → HasPlaces area → i < 64 → IsProper area i s
    → high_of (high_half area i s) k - low_of (high_half area i s) k ≤ high_of area k - low_of area k
high_width area i s k p below proper = elim (cases_eq k i) [
  | inl here ↦ omega (arith, high_half-high area i s k, high_half-low area i s k here (omega (arith, p.lows)), ap (low_of area) here, proper.from_low)
  | inr other ↦ omega (arith, high_half-high area i s k, high_half-low_other area i s k other)
]

pub low_splits : (area : IntervalBox) (i s : ℕ) → HasPlaces area → i < 64 → IsProper area i s → splits_left (low_half area i s) < splits_left area
unfolding splits_left
low_splits area i s p below proper =
    sum_to-less 64 (λ k. high_of (low_half area i s) k - low_of (low_half area i s) k) (λ k. high_of area k - low_of area k) i below
    (omega (arith, low_half-low area i s i, low_half-high area i s i refl (omega (arith, p.highs)), proper.from_low, proper.below_high))
    (λ k. low_width area i s k p below proper)

pub high_splits : (area : IntervalBox) (i s : ℕ) → HasPlaces area → i < 64 → IsProper area i s → splits_left (high_half area i s) < splits_left area
unfolding splits_left
high_splits area i s p below proper =
    sum_to-less 64 (λ k. high_of (high_half area i s) k - low_of (high_half area i s) k) (λ k. high_of area k - low_of area k) i below
    (omega (arith, high_half-high area i s i, high_half-low area i s i refl (omega (arith, p.lows)), proper.from_low, proper.below_high))
    (λ k. high_width area i s k p below proper)

low_places : (area : IntervalBox) (i s : ℕ) → HasPlaces area → HasPlaces (low_half area i s)
unfolding low_half
low_places area i s p = record { lows = p.lows; highs = length-set area.highs i s ∙ p.highs }

high_places : (area : IntervalBox) (i s : ℕ) → HasPlaces area → HasPlaces (high_half area i s)
unfolding high_half
high_places area i s p = record { lows = length-set area.lows i (s + 1) ∙ p.lows; highs = p.highs }

-- what is known of the box on top
pub first_room : (area : IntervalBox) (due : List IntervalBox) → IsRoomy (area ∷ due) → HasPlaces area × (length due + 1 + splits_left area ≤ BOXES_MAX) × IsRoomy due
unfolding IsRoomy
first_room area due r = r

pub roomy_none : IsRoomy []
unfolding IsRoomy
roomy_none = tt

pub roomy_root : (job : Job) → IsRoomy (root_of job ∷ [])
unfolding IsRoomy splits_left
roomy_root job =
    let few = sum_to-bound 64 16 (λ k. high_of (root_of job) k - low_of (root_of job) k) (λ k below. root_width job k) in
    (record { lows = root_lows job; highs = root_highs job }, omega arith, tt)

pub roomy_high : (area : IntervalBox) (due : List IntervalBox) (i s : ℕ) → IsRoomy (area ∷ due) → i < 64 → IsProper area i s → IsRoomy (high_half area i s ∷ due)
unfolding IsRoomy
roomy_high area due i s r below proper = (high_places area i s r.0, omega (arith, r.1, high_splits area i s r.0 below proper), r.2)

pub roomy_split : (area : IntervalBox) (due : List IntervalBox) (i s : ℕ) → IsRoomy (area ∷ due) → i < 64 → IsProper area i s
    → IsRoomy (low_half area i s ∷ high_half area i s ∷ due)
unfolding IsRoomy
roomy_split area due i s r below proper =
    (low_places area i s r.0, omega (arith, r.1, low_splits area i s r.0 below proper), roomy_high area due i s r below proper)

pub reverse-last : (xs : List IntervalBox) (y : IntervalBox) → reverse (xs ++ y ∷ []) ≡ y ∷ reverse xs
reverse-last xs y = reverse-append xs (y ∷ [])

-- a push that succeeds
pub pushed : (ok : Bool) (news olds : List IntervalBox) (y : IntervalBox) → ok ≡ true → news ≡ (if ok then olds ++ y ∷ [] else olds) → news ≡ olds ++ y ∷ []
pushed ok news olds y is e = e ∙ (rw is refl)

pub roomy_popped : (olds news : List IntervalBox) (popped : Option IntervalBox) → olds ≡ news ++ option_to_list popped → IsRoomy (reverse olds) → IsRoomy (reverse news)
roomy_popped olds news None e r = subst (λ (xs : List IntervalBox). IsRoomy (reverse xs)) (e ∙ append-nil news) r
roomy_popped olds news (Some y) e r = (first_room y (reverse news) (subst IsRoomy (ap reverse e ∙ reverse-last news y) r)).2

-- a box that is taken off to be split
pub record IsTakenOff (olds xs : List IntervalBox) (area : IntervalBox) (i s : ℕ) : Type 0 where
  pub items : reverse olds ≡ area ∷ reverse xs
  pub below : i < 64
  pub proper : IsProper area i s
  pub roomy : IsRoomy (low_half area i s ∷ high_half area i s ∷ reverse xs)
  pub room : length xs + 2 ≤ BOXES_MAX

pub taken_off : (olds xs : List IntervalBox) (area : IntervalBox) (i s : ℕ) → olds ≡ xs ++ area ∷ [] → IsRoomy (reverse olds) → IsSplitFirst (reverse olds) i s
    → IsTakenOff olds xs area i s
taken_off olds xs area i s e r split =
    let items = ap reverse e ∙ reverse-last xs area in
    let room = subst IsRoomy items r in
    let can = subst (λ (l : List IntervalBox). IsSplitFirst l i s) items split in
    let first = first_room area (reverse xs) room in
    record {
      items = items;
      below = can.0;
      proper = can.1;
      roomy = roomy_split area (reverse xs) i s room can.0 can.1;
      room = omega (arith, first.1, low_splits area i s first.0 can.0 can.1, length-reverse xs);
    }

pub put_on : (xs mids news : List IntervalBox) (low high : IntervalBox) (a b : Bool) → a ≡ true → b ≡ true
    → mids ≡ (if a then xs ++ high ∷ [] else xs) → news ≡ (if b then mids ++ low ∷ [] else mids) → reverse news ≡ low ∷ high ∷ reverse xs
put_on xs mids news low high a b is_a is_b first second =
    ap reverse (pushed b news mids low is_b second) ∙ reverse-last mids low
    ∙ ap (λ (l : List IntervalBox). low ∷ l) (ap reverse (pushed a mids xs high is_a first) ∙ reverse-last xs high)

-- equal stacks have equal boxes on top, and below it
first_or : IntervalBox → List IntervalBox → IntervalBox
first_or other [] = other
first_or other (area ∷ due) = area

pub heads_same : (a b : IntervalBox) (l m : List IntervalBox) → ◌≡◌ {A = List IntervalBox} (a ∷ l) (b ∷ m) → a ≡ b
unfolding first_or
heads_same a b l m e = ap (first_or a) e

pub tails_same : (a b : IntervalBox) (l m : List IntervalBox) → ◌≡◌ {A = List IntervalBox} (a ∷ l) (b ∷ m) → l ≡ m
tails_same a b l m e = ap without_first e
