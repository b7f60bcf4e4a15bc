-- The first suppliers are priced, one after another.
use Rattle.std.proofs.Common.{ℕ, ◌≡◌, ◌+◌, ◌<◌, ℤ, ◌+ℤ◌, List, length, get_or, set, refl, ap, arith, subst, inl, inr, get_or-set_same, get_or-set_other}
use Rattle.std.proofs.lemmas.Bool.{cases_lt}
use Rattle.std.proofs.lemmas.Int.{ints}
use Rattle.tqd_base.specs.Sum.{signed_sum_to}
use Rattle.tqd_instance.specs.declared.job.Job.{Job}
use Rattle.interval_box.specs.declared.boxes.IntervalBox.{IntervalBox}
use Rattle.bound_tree.specs.Value.{charges_of, supplier_value}
use Rattle.bound_tree.proofs.SignedSums.{signed_sum_to-more, signed_sum_to-same}
use Rattle.lagrangian.specs.declared.supplier.SupplierPrices.{SupplierPrices}
use Rattle.lagrangian.specs.Priced.{place_of, IsSupplierPriced}
use Rattle.lagrangian.specs.PricingState.{no_prices}

at_here : (found : List SupplierPrices) (n : ℕ) (p : SupplierPrices) → n < length found → get_or (set found n p) n no_prices ≡ p
at_here found n p below = get_or-set_same found n p no_prices below

at_other : (found : List SupplierPrices) (n k : ℕ) (p : SupplierPrices) → k < n → get_or (set found n p) k no_prices ≡ get_or found k no_prices
at_other found n k p below = get_or-set_other found n k p no_prices (λ e. omega arith)

-- what the ranges of the first n suppliers are worth together
unfoldable pub paid_to : Job → IntervalBox → List ℤ → List SupplierPrices → ℕ → ℤ
paid_to job area prices found n = signed_sum_to n (λ i. supplier_value (charges_of job) job area prices (place_of (get_or found i no_prices)) i)

pub paid_to-is : (job : Job) (area : IntervalBox) (prices : List ℤ) (found : List SupplierPrices) (n : ℕ)
    → paid_to job area prices found n ≡ signed_sum_to n (λ i. supplier_value (charges_of job) job area prices (place_of (get_or found i no_prices)) i)
unfolding paid_to
paid_to-is job area prices found n = refl

-- one supplier more
pub paid_to-next : (job : Job) (area : IntervalBox) (prices : List ℤ) (found : List SupplierPrices) (n : ℕ) (p : SupplierPrices) → n < length found
    → paid_to job area prices (set found n p) (n + 1) ≡ paid_to job area prices found n +ℤ supplier_value (charges_of job) job area prices (place_of p) n
unfolding paid_to
paid_to-next job area prices found n p below =
    let f = λ (i : ℕ). supplier_value (charges_of job) job area prices (place_of (get_or (set found n p) i no_prices)) i in
    let g = λ (i : ℕ). supplier_value (charges_of job) job area prices (place_of (get_or found i no_prices)) i in
    let same = signed_sum_to-same n f g (λ k early. ap (λ (q : SupplierPrices). supplier_value (charges_of job) job area prices (place_of q) k) (at_other found n k p early)) in
    let last : f n ≡ supplier_value (charges_of job) job area prices (place_of p) n =
    ap (λ (q : SupplierPrices). supplier_value (charges_of job) job area prices (place_of q) n) (at_here found n p below) in
    let more = signed_sum_to-more n f in
    omega (arith, ints)

pub priced_next : (job : Job) (area : IntervalBox) (prices : List ℤ) (found : List SupplierPrices) (n : ℕ) (p : SupplierPrices) → n < length found
    → IsSupplierPriced job area prices n p → ((i : ℕ) → i < n → IsSupplierPriced job area prices i (get_or found i no_prices))
    → (i : ℕ) → i < n + 1 → IsSupplierPriced job area prices i (get_or (set found n p) i no_prices)
priced_next job area prices found n p below here before i within = elim (cases_lt i n) [
  | inl early ↦ rw (at_other found n i p early) (before i early)
  | inr late ↦
      (let at : n ≡ i = omega arith in
      subst (λ (k : ℕ). IsSupplierPriced job area prices k (get_or (set found n p) k no_prices)) at (rw (at_here found n p below) here))
]
