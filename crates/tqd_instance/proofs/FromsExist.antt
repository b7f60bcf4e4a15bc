-- There is a list of the numbers at which the intervals of a supplier begin, and so the parts describe one job.
use Rattle.std.proofs.Common.{ℕ, suc, zero, ◌≡◌, ◌+◌, ◌<◌, ◌≤◌, ◌==◌, ◌||◌, Bool, true, false, List, [], ◌∷◌, length, get_or, filter, Contains, arith, refl, ap, ◌∙◌, sym, subst, cond}
use Rattle.std.specs.List.{list_any, range_with_len}
use Rattle.std.specs.List.Sorted.{IsStrictlyIncreasing}
use Rattle.std.proofs.lemmas.Bool.Decides.{nat_tests}
use Rattle.std.proofs.lemmas.List.{ext_get_or}
use Rattle.std.proofs.lemmas.List.FromFn.{get_or-range_with_len, length-range_with_len}
use Rattle.std.proofs.lemmas.List.Elements.{All-map, All-contains, filter_passes}
use Rattle.std.proofs.lemmas.List.Folds.{Any-from_list_any}
use Rattle.std.proofs.lemmas.List.Kept.{IsStrictlyIncreasing-filter}
use Rattle.tqd_base.specs.declared.limits.TheConstants.{QTY_MAX}
use Rattle.tqd_instance.specs.declared.job.Job.{Job}
use Rattle.tqd_instance.specs.declared.supplier.Segment.{Segment}
use Rattle.tqd_instance.specs.declared.supplier.Supplier.{Supplier}
use Rattle.tqd_instance.specs.declared.parts.PriceRow.{PriceRow}
use Rattle.tqd_instance.specs.PartsData.{PartsData}
use Rattle.tqd_instance.specs.Offer.{no_supplier}
use Rattle.tqd_instance.specs.Parts.{AreFroms, IsWellFormed, froms_stated}
use Rattle.tqd_instance.specs.Built.{IsJobOf}
use Rattle.tqd_instance.specs.Rows.{rows_of}
use Rattle.tqd_instance.proofs.Rows.{rows_are}
use Rattle.tqd_instance.proofs.JobSame.{job_same}

-- the numbers below n that a list has, in rising order
has : List ℕ → ℕ → Bool
has xs k = list_any (λ y. y == k) xs

risen : ℕ → List ℕ → List ℕ
risen n xs = filter (has xs) (range_with_len 0 n)

range_rises : (n : ℕ) → IsStrictlyIncreasing (range_with_len 0 n)
range_rises n = λ k below.
    let size = length-range_with_len 0 n in
    let here = get_or-range_with_len 0 n k 0 (omega arith) in
    let next = get_or-range_with_len 0 n (k + 1) 0 (omega arith) in
    omega arith

range_contains : (n k : ℕ) → k < n → Contains (range_with_len 0 n) k
range_contains n k below = (k, omega (arith, length-range_with_len 0 n), get_or-range_with_len 0 n k k below ∙ omega arith)

risen_rises : (n : ℕ) (xs : List ℕ) → IsStrictlyIncreasing (risen n xs)
unfolding risen
risen_rises n xs = IsStrictlyIncreasing-filter (has xs) (range_with_len 0 n) (range_rises n)

-- what passes a filter is kept
contains_filter : (p : ℕ → Bool) (xs : List ℕ) (x k : ℕ) → k < length xs → get_or xs k x ≡ x → p x ≡ true → Contains (filter p xs) x
contains_filter p [] x k below is passes = absurd (omega arith)
contains_filter p (y ∷ ys) x zero below is passes =
    let here : p y ≡ true = ap p is ∙ passes in
    rw here (0, omega arith, is)
contains_filter p (y ∷ ys) x (suc k) below is passes = kept p y ys x (p y) (contains_filter p ys x k (omega arith) is passes)
  where
    kept : (p : ℕ → Bool) (y : ℕ) (ys : List ℕ) (x : ℕ) (b : Bool) → Contains (filter p ys) x → Contains (cond b (y ∷ filter p ys) (filter p ys)) x
    kept p y ys x true rest = (suc rest.0, omega (arith, rest.1), rest.2)
    kept p y ys x false rest = rest

has_from_contains : (xs : List ℕ) (x k : ℕ) → k < length xs → get_or xs k x ≡ x → has xs x ≡ true
unfolding has
has_from_contains [] x k below is = absurd (omega arith)
has_from_contains (y ∷ ys) x zero below is =
    let here : (y == x) ≡ true = grind (arith, nat_tests) in
    rw here refl
has_from_contains (y ∷ ys) x (suc k) below is = or_right (y == x) (list_any (λ z. z == x) ys) (has_from_contains ys x k (omega arith) is)
  where
    or_right : (a b : Bool) → b ≡ true → (a || b) ≡ true
    or_right true b is = refl
    or_right false b is = is

contains_from_has : (xs : List ℕ) (x : ℕ) → has xs x ≡ true → Contains xs x
unfolding has
contains_from_has xs x is =
    let some = Any-from_list_any (λ (y : ℕ). y == x) xs is in
    let same : some.1 ≡ x = grind (arith, nat_tests, some.4) in
    (some.0, some.2, at_default xs some.0 some.1 x some.2 some.3 same)
  where
    at_default : (xs : List ℕ) (k y x : ℕ) → k < length xs → get_or xs k y ≡ y → y ≡ x → get_or xs k x ≡ x
    at_default xs k y x below is same = subst (λ (z : ℕ). get_or xs k z ≡ z) same is

risen_contains : (n : ℕ) (xs : List ℕ) (x : ℕ) → x < n → Contains xs x → Contains (risen n xs) x
unfolding risen
risen_contains n xs x below c =
    let r = range_contains n x below in
    contains_filter (has xs) (range_with_len 0 n) x r.0 r.1 r.2 (has_from_contains xs x c.0 c.1 c.2)

from_risen : (n : ℕ) (xs : List ℕ) (x : ℕ) → Contains (risen n xs) x → Contains xs x
unfolding risen
from_risen n xs x c =
    let passes = filter_passes (has xs) (range_with_len 0 n) c.0 x c.1 in
    contains_from_has xs x (ap (has xs) (sym c.2) ∙ passes)

stated_within : (parts : PartsData) (i from : ℕ) → IsWellFormed parts → Contains (froms_stated parts i) from → from ≤ QTY_MAX
stated_within parts i from formed stated =
    let rows = rows_are parts i formed in
    All-contains (λ (n : ℕ). n ≤ QTY_MAX) (froms_stated parts i) from
    (All-map (λ (n : ℕ). n ≤ QTY_MAX) (λ (r : PriceRow). r.from) (rows_of parts i) (λ j e in_rows. (rows j e in_rows).from)) stated

pub froms_exist : (parts : PartsData) (i : ℕ) → IsWellFormed parts → (froms : List ℕ) × AreFroms parts i froms
froms_exist parts i formed = (
  risen (suc QTY_MAX) (froms_stated parts i),
  record {
    rising = risen_rises (suc QTY_MAX) (froms_stated parts i);
    stated = λ from. (
      from_risen (suc QTY_MAX) (froms_stated parts i) from,
      (λ stated. risen_contains (suc QTY_MAX) (froms_stated parts i) from (let w = stated_within parts i from formed stated in omega arith) stated),
    );
  },
)

-- two suppliers with the same numbers are one
supplier_same : (a b : Supplier) → a.fee ≡ b.fee → a.stocks ≡ b.stocks → a.segments ≡ b.segments → a ≡ b
supplier_same a b fee stocks segments =
    ap (λ (n : ℕ). let s : Supplier = record { fee = n; stocks = a.stocks; segments = a.segments } in s) fee
    ∙ ap (λ (xs : List ℕ). let s : Supplier = record { fee = b.fee; stocks = xs; segments = a.segments } in s) stocks
    ∙ ap (λ (xs : List Segment). let s : Supplier = record { fee = b.fee; stocks = b.stocks; segments = xs } in s) segments

pub job_one : (parts : PartsData) (a b : Job) → IsWellFormed parts → IsJobOf parts a → IsJobOf parts b → a ≡ b
job_one parts a b formed of_a of_b =
    job_same a b (of_a.needs ∙ sym of_b.needs) (of_a.mosts ∙ sym of_b.mosts)
    (ext_get_or no_supplier a.suppliers b.suppliers (of_a.count ∙ sym of_b.count) (λ i below.
    let i_in : i < parts.suppliers = omega (arith, of_a.count) in
    let froms = froms_exist parts i formed in
    let s = of_a.suppliers i i_in in
    let t = of_b.suppliers i i_in in
    supplier_same (get_or a.suppliers i no_supplier) (get_or b.suppliers i no_supplier) (s.fee ∙ sym t.fee) (s.stocks ∙ sym t.stocks)
    (s.segments froms.0 froms.1 ∙ sym (t.segments froms.0 froms.1))))
    (of_a.least_winners ∙ sym of_b.least_winners) (of_a.most_winners ∙ sym of_b.most_winners)
