-- What a segment's value is, in segment 0 and in every other.
use Rattle.std.proofs.Common.{ℕ, ◌≡◌, ◌≤◌, ◌==◌, ◌+◌, ◌-◌, max, if◌then◌else◌, ℤ, pos, ◌+ℤ◌, List, refl, sym, ◌∙◌, arith}
use Rattle.std.specs.Int.{int_min}
use Rattle.std.proofs.lemmas.Bool.Decides.{nat_tests}
use Rattle.tqd_instance.specs.declared.job.Job.{Job}
use Rattle.tqd_instance.specs.Job.{goods, low, high}
use Rattle.interval_box.specs.declared.boxes.IntervalBox.{IntervalBox}
use Rattle.interval_box.specs.Ranges.{low_of, high_of}
use Rattle.tqd_base.specs.Sum.{signed_sum_to}
use Rattle.bound_tree.specs.LeastFrom.{least_from}
use Rattle.bound_tree.specs.Prices.{first_of, price_at}
use Rattle.bound_tree.specs.Value.{Charges, cap, least_times, least_gain, segment_value, supplier_value}
use Rattle.bound_tree.proofs.SignedSums.{least_from-more}

if_zero : (j : ℕ) (x y : ℤ) → j ≡ 0 → (if j == 0 then x else y) ≡ x
if_zero j x y e = grind (arith, nat_tests)

if_some : (j : ℕ) (x y : ℤ) → 1 ≤ j → (if j == 0 then x else y) ≡ y
if_some j x y h = grind (arith, nat_tests)

pub segment_value-none : (charges : Charges) (job : Job) (prices : List ℤ) (h : ℤ) (i j : ℕ) → j ≡ 0 → segment_value charges job prices h i j ≡ pos 0
unfolding segment_value
segment_value-none charges job prices h i j e = if_zero j (pos 0) _ e

-- the gains of all goods in a segment
unfoldable pub gains : Charges → Job → List ℤ → ℤ → ℕ → ℕ → ℤ
gains charges job prices h i j = signed_sum_to (goods job) (λ k. least_gain (cap job i k) (charges.price i j k) (price_at prices k) h)

pub segment_value-some : (charges : Charges) (job : Job) (prices : List ℤ) (h : ℤ) (i j : ℕ) → 1 ≤ j
    → segment_value charges job prices h i j ≡ pos (charges.fee i) +ℤ gains charges job prices h i j +ℤ least_times h (low job i j) (high job i j)
unfolding segment_value gains
segment_value-some charges job prices h i j some = if_some j (pos 0) _ some

pub gains-are : (charges : Charges) (job : Job) (prices : List ℤ) (h : ℤ) (i j : ℕ)
    → gains charges job prices h i j ≡ signed_sum_to (goods job) (λ k. least_gain (cap job i k) (charges.price i j k) (price_at prices k) h)
unfolding gains
gains-are charges job prices h i j = refl

-- the least over a range of so many segments
pub supplier_value-is : (charges : Charges) (job : Job) (area : IntervalBox) (prices : List ℤ) (h : ℕ → ℤ) (i first count : ℕ)
    → first ≡ low_of area i → count ≡ high_of area i - low_of area i
    → supplier_value charges job area prices h i ≡ least_from first count (λ j. segment_value charges job prices (h j) i j)
unfolding supplier_value
supplier_value-is charges job area prices h i first count a b = rw (a, b)

pub first_is : (area : IntervalBox) (i low first : ℕ) → low ≡ low_of area i → first ≡ max low 1 → first ≡ first_of area i
unfolding first_of
first_is area i low first a b = omega (arith, a, b)

-- one more segment, n after the first
pub least_from-next : (low n m : ℕ) (f : ℕ → ℤ) (least value next : ℤ) → least ≡ least_from low n f → value ≡ f (low + m) → m ≡ n + 1 → next ≡ int_min least value
    → next ≡ least_from low m f
least_from-next low n m f least value next is here more min =
    let e = least_from-more low n f in
    rw more (rw (is, rw more at here) at min ∙ sym e)
