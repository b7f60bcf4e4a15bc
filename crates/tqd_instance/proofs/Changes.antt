-- What stays of a job where one thing changes.
use Rattle.std.proofs.Common.{ℕ, suc, zero, ◌≡◌, ◌+◌, ◌*◌, ◌-◌, ◌<◌, ◌≤◌, ◌==◌, Bool, true, false, cond, List, length, get_or, map, arith, refl, ap, ◌∙◌, sym}
use Rattle.std.proofs.Math.Nat.{div-le_of_le-mul, mul-le-mul_left}
use Rattle.std.proofs.lemmas.List.{length-map}
use Rattle.std.proofs.Math.ListN.{get_or-map}
use Rattle.std.proofs.lemmas.Bool.{false≢true}
use Rattle.std.proofs.lemmas.Bool.Decides.{nat_tests}
use Rattle.std.proofs.lemmas.Grind.{common_steps}
use Rattle.tqd_base.specs.declared.limits.TheConstants.{PRICE_MAX}
use Rattle.tqd_instance.specs.declared.supplier.Segment.{Segment}
use Rattle.tqd_instance.specs.declared.supplier.Supplier.{Supplier}
use Rattle.tqd_instance.specs.declared.job.Job.{Job}
use Rattle.tqd_instance.specs.JobFacts.{IsNothing, IsSegment, IsSupplier, IsJob}
use Rattle.tqd_instance.specs.Offer.{no_segment, no_supplier}
use Rattle.tqd_instance.specs.Job.{goods, suppliers, need, most, supplier_at, segment_at, stock, segments, low, high, price, fee, least_winners, most_winners}
use Rattle.tqd_instance.specs.Same.{IsSameSupplier}
use Rattle.tqd_instance.specs.Change.{cut_price, HasMostWinners, IsCutSupplier, HasCutPrices}
use Rattle.tqd_instance.specs.Cuts.{cut_segment, cut_supplier, cut_nth, HasPrices, HasPricedSegments, HasPricedSuppliers}

-- a cut price is no higher
pub cut_price-le : (cut price : ℕ) → cut_price cut price ≤ price
unfolding cut_price
cut_price-le cut price = div-le_of_le-mul 1000 (at_most price (1000 - cut) (omega arith))
  where
    at_most : (p share : ℕ) → share ≤ 1000 → p * share ≤ 1000 * p
    at_most p share le = let m : p * share ≤ p * 1000 = mul-le-mul_left p le in omega arith

cut_price-zero : (cut : ℕ) → cut_price cut 0 ≡ 0
cut_price-zero cut = let le = cut_price-le cut 0 in omega arith

price_of_cut : (cut : ℕ) (ps : List ℕ) (k : ℕ) → get_or (map (cut_price cut) ps) k 0 ≡ cut_price cut (get_or ps k 0)
price_of_cut cut ps k = ap (get_or (map (cut_price cut) ps) k) (sym (cut_price-zero cut)) ∙ get_or-map (cut_price cut) ps k 0

-- the segments of a supplier whose prices are cut
pub cut_segments-length : (cut : ℕ) (s : Supplier) → length (cut_supplier cut s).segments ≡ length s.segments
unfolding cut_supplier
cut_segments-length cut s = length-map s.segments (cut_segment cut)

pub segment_of_cut : (cut : ℕ) (s : Supplier) (j : ℕ) → get_or (cut_supplier cut s).segments j no_segment ≡ cut_segment cut (get_or s.segments j no_segment)
unfolding cut_supplier cut_segment
segment_of_cut cut s j = get_or-map (cut_segment cut) s.segments j no_segment

cut_is_segment : (cut goods : ℕ) (s : Segment) → IsSegment goods s → IsSegment goods (cut_segment cut s)
unfolding cut_segment
cut_is_segment cut goods s is = record {
  from_one = is.from_one;
  ordered = is.ordered;
  within = is.within;
  width = length-map s.prices (cut_price cut) ∙ is.width;
  prices = λ k. let l = cut_price-le cut (get_or s.prices k 0) in let p = is.prices k in omega (arith, price_of_cut cut s.prices k);
}

cut_is_nothing : (cut goods : ℕ) (s : Segment) → IsNothing goods s → IsNothing goods (cut_segment cut s)
unfolding cut_segment
cut_is_nothing cut goods s is = record {
  low = is.low;
  high = is.high;
  width = length-map s.prices (cut_price cut) ∙ is.width;
  prices = λ k. price_of_cut cut s.prices k ∙ ap (cut_price cut) (is.prices k) ∙ cut_price-zero cut;
}

fee_of_cut : (cut : ℕ) (s : Supplier) → s.fee ≤ PRICE_MAX → (cut_supplier cut s).fee ≤ PRICE_MAX
unfolding cut_supplier
fee_of_cut cut s le = le

width_of_cut : (cut : ℕ) (s : Supplier) (goods : ℕ) → length s.stocks ≡ goods → length (cut_supplier cut s).stocks ≡ goods
unfolding cut_supplier
width_of_cut cut s goods is = is

stock_of_cut : (cut : ℕ) (s : Supplier) (k : ℕ) → get_or s.stocks k 0 ≤ 100000000 → get_or (cut_supplier cut s).stocks k 0 ≤ 100000000
unfolding cut_supplier
stock_of_cut cut s k le = le

low_of_cut : (cut : ℕ) (s : Supplier) (j : ℕ) → (get_or (cut_supplier cut s).segments j no_segment).low ≡ (get_or s.segments j no_segment).low
unfolding cut_segment
low_of_cut cut s j = ap (λ (e : Segment). e.low) (segment_of_cut cut s j)

high_of_cut : (cut : ℕ) (s : Supplier) (j : ℕ) → (get_or (cut_supplier cut s).segments j no_segment).high ≡ (get_or s.segments j no_segment).high
unfolding cut_segment
high_of_cut cut s j = ap (λ (e : Segment). e.high) (segment_of_cut cut s j)

cut_is_supplier : (cut goods : ℕ) (s : Supplier) → IsSupplier goods s → IsSupplier goods (cut_supplier cut s)
cut_is_supplier cut goods s is = record {
  fee = fee_of_cut cut s is.fee;
  width = width_of_cut cut s goods is.width;
  stocks = λ k. stock_of_cut cut s k (is.stocks k);
  some = let l = cut_segments-length cut s in let h = is.some in omega arith;
  few = let l = cut_segments-length cut s in let h = is.few in omega arith;
  first = rw (segment_of_cut cut s 0) (cut_is_nothing cut goods (get_or s.segments 0 no_segment) is.first);
  segments = λ j some below. rw (segment_of_cut cut s j)
      (cut_is_segment cut goods (get_or s.segments j no_segment) (is.segments j some (let l = cut_segments-length cut s in omega arith)));
  contiguous = λ j some below. low_of_cut cut s (j + 1)
      ∙ is.contiguous j some (let l = cut_segments-length cut s in omega arith) ∙ ap (λ n. n + 1) (sym (high_of_cut cut s j));
}

nth_is_supplier : (i cut n goods : ℕ) (s : Supplier) → IsSupplier goods s → IsSupplier goods (cut_nth i cut n s)
unfolding cut_nth
nth_is_supplier i cut n goods s is = by_test cut goods s is (n == i)
  where
    by_test : (cut goods : ℕ) (s : Supplier) → IsSupplier goods s → (b : Bool) → IsSupplier goods (cond b (cut_supplier cut s) s)
    by_test cut goods s is true = cut_is_supplier cut goods s is
    by_test cut goods s is false = is

-- an element does not depend on what stands past the end
get_or_any : {X : Type 0} (xs : List X) (k : ℕ) (d e : X) → k < length xs → get_or xs k d ≡ get_or xs k e
get_or_any xs k d e below = grind (arith, common_steps)

prices_of_nothing : (goods : ℕ) (s : Segment) → IsNothing goods s → HasPrices s.prices
prices_of_nothing goods s is = λ k d below. omega (arith, is.prices k, get_or_any s.prices k d 0 below)

prices_of_segment : (goods : ℕ) (s : Segment) → IsSegment goods s → HasPrices s.prices
prices_of_segment goods s is = λ k d below. let p = is.prices k in omega (arith, get_or_any s.prices k d 0 below)

-- the prices of a supplier are within their limit, those of segment 0 too
pub prices_of_supplier : (goods : ℕ) (s : Supplier) → IsSupplier goods s → HasPricedSegments s.segments
prices_of_supplier goods s is zero d below = rw (get_or_any s.segments 0 d no_segment below) (prices_of_nothing goods (get_or s.segments 0 no_segment) is.first)
prices_of_supplier goods s is (suc j) d below = rw (get_or_any s.segments (suc j) d no_segment below)
    (prices_of_segment goods (get_or s.segments (suc j) no_segment) (is.segments (suc j) (omega arith) below))

pub prices_of_suppliers : (job : Job) → HasPricedSuppliers job.suppliers
prices_of_suppliers job i d below = rw (get_or_any job.suppliers i d no_supplier below)
    (prices_of_supplier (length job.needs) (get_or job.suppliers i no_supplier) (job.facts.offers i below))

-- suppliers as they were but for the i-th, whose prices are cut
abbrev pub AreCut : ℕ → ℕ → List Supplier → List Supplier → Type 0
AreCut i cut a b = (length b ≡ length a) × ((n : ℕ) → n < length a → get_or b n no_supplier ≡ cut_nth i cut n (get_or a n no_supplier))

-- the facts of a job with cut prices
pub cut_facts : (job : Job) (i cut : ℕ) (needs mosts : List ℕ) (sellers : List Supplier) (least greatest : ℕ) → needs ≡ job.needs → mosts ≡ job.mosts
    → AreCut i cut job.suppliers sellers → least ≡ least_winners job → greatest ≡ most_winners job → IsJob needs mosts sellers least greatest
unfolding least_winners most_winners
cut_facts job i cut needs mosts sellers least greatest needs_are mosts_are are least_is greatest_is = rw (needs_are, mosts_are, least_is, greatest_is) (record {
  few_goods = job.facts.few_goods;
  width = job.facts.width;
  goods = job.facts.goods;
  few_suppliers = let few = job.facts.few_suppliers in omega (arith, are.0);
  offers = λ n below. rw (are.1 n (omega (arith, are.0)))
      (nth_is_supplier i cut n (length job.needs) (get_or job.suppliers n no_supplier) (job.facts.offers n (omega (arith, are.0))));
  winners_ordered = job.facts.winners_ordered;
  few_winners = job.facts.few_winners;
})

-- a supplier with the same numbers
same_supplier : (a b : Job) (i : ℕ) → supplier_at b i ≡ supplier_at a i → IsSameSupplier a b i
unfolding stock segments low high price fee segment_at
same_supplier a b i same = record {
  same_fee = ap (λ (s : Supplier). s.fee) same;
  same_stocks = λ k below. ap (λ (s : Supplier). get_or s.stocks k 0) same;
  as_many_segments = ap (λ (s : Supplier). length s.segments - 1) same;
  each_segment = λ j some within. record {
    same_low = ap (λ (s : Supplier). (get_or s.segments j no_segment).low) same;
    same_high = ap (λ (s : Supplier). (get_or s.segments j no_segment).high) same;
    same_prices = λ k below. ap (λ (s : Supplier). get_or (get_or s.segments j no_segment).prices k 0) same;
  };
}

fee_of : (cut : ℕ) (s : Supplier) → (cut_supplier cut s).fee ≡ s.fee
unfolding cut_supplier
fee_of cut s = refl

stock_of : (cut : ℕ) (s : Supplier) (k : ℕ) → get_or (cut_supplier cut s).stocks k 0 ≡ get_or s.stocks k 0
unfolding cut_supplier
stock_of cut s k = refl

low_of : (cut : ℕ) (t : Segment) → (cut_segment cut t).low ≡ t.low
unfolding cut_segment
low_of cut t = refl

high_of : (cut : ℕ) (t : Segment) → (cut_segment cut t).high ≡ t.high
unfolding cut_segment
high_of cut t = refl

price_at : (cut : ℕ) (t : Segment) (k : ℕ) → get_or (cut_segment cut t).prices k 0 ≡ cut_price cut (get_or t.prices k 0)
unfolding cut_segment
price_at cut t k = price_of_cut cut t.prices k

-- a supplier with cut prices
cut_supplier_is : (cut : ℕ) (a b : Job) (i : ℕ) → supplier_at b i ≡ cut_supplier cut (supplier_at a i) → IsCutSupplier cut a b i
unfolding stock segments low high price fee segment_at
cut_supplier_is cut a b i are = record {
  same_fee = ap (λ (s : Supplier). s.fee) are ∙ fee_of cut (supplier_at a i);
  same_stocks = λ k below. ap (λ (s : Supplier). get_or s.stocks k 0) are ∙ stock_of cut (supplier_at a i) k;
  as_many_segments = ap (λ (s : Supplier). length s.segments - 1) are ∙ ap (λ n. n - 1) (cut_segments-length cut (supplier_at a i));
  each_segment = λ j some within. let e = ap (λ (s : Supplier). get_or s.segments j no_segment) are ∙ segment_of_cut cut (supplier_at a i) j in record {
    same_low = ap (λ (t : Segment). t.low) e ∙ low_of cut (get_or (supplier_at a i).segments j no_segment);
    same_high = ap (λ (t : Segment). t.high) e ∙ high_of cut (get_or (supplier_at a i).segments j no_segment);
    cut_prices = λ k below. ap (λ (t : Segment). get_or t.prices k 0) e ∙ price_at cut (get_or (supplier_at a i).segments j no_segment) k;
  };
}

-- the i-th supplier with cut prices, and each other as it was
nth_cut : (i cut : ℕ) (s : Supplier) → cut_nth i cut i s ≡ cut_supplier cut s
unfolding cut_nth
nth_cut i cut s = by_test cut s (i == i) (self_eq i)
  where
    self_eq : (i : ℕ) → (i == i) ≡ true
    self_eq i = grind (arith, nat_tests)

    by_test : (cut : ℕ) (s : Supplier) (b : Bool) → b ≡ true → cond b (cut_supplier cut s) s ≡ cut_supplier cut s
    by_test cut s true is = refl
    by_test cut s false is = absurd (false≢true is)

other_as_it_was : (i cut n : ℕ) (s : Supplier) → (n ≡ i → ⊥) → cut_nth i cut n s ≡ s
unfolding cut_nth
other_as_it_was i cut n s other = by_test cut s (n == i) (other_test n i other)
  where
    other_test : (n i : ℕ) → (n ≡ i → ⊥) → (n == i) ≡ false
    other_test n i other = grind (arith, nat_tests)

    by_test : (cut : ℕ) (s : Supplier) (b : Bool) → b ≡ false → cond b (cut_supplier cut s) s ≡ s
    by_test cut s true is = absurd (false≢true (sym is))
    by_test cut s false is = refl

-- a job of the same parts but for the greatest number of winners
pub most_winners_of_parts : (most : ℕ) (a b : Job) → b.needs ≡ a.needs → b.mosts ≡ a.mosts → b.suppliers ≡ a.suppliers
    → b.least_winners ≡ least_winners a → b.most_winners ≡ most → HasMostWinners most a b
unfolding goods suppliers need most supplier_at segment_at stock segments low high price fee least_winners most_winners
most_winners_of_parts n a b needs mosts sellers least greatest = record {
  as_many_goods = ap length needs;
  as_many_suppliers = ap length sellers;
  each_good = λ k below. record { same_need = ap (λ (xs : List ℕ). get_or xs k 0) needs; same_most = ap (λ (xs : List ℕ). get_or xs k 0) mosts };
  each_supplier = λ i below. same_supplier a b i (ap (λ (xs : List Supplier). get_or xs i no_supplier) sellers);
  same_least_winners = least;
  most_winners = greatest;
}

-- a job of the same parts but for the prices of the i-th supplier
pub cut_of_parts : (i cut : ℕ) (a b : Job) → i < suppliers a → b.needs ≡ a.needs → b.mosts ≡ a.mosts → AreCut i cut a.suppliers b.suppliers
    → b.least_winners ≡ least_winners a → b.most_winners ≡ most_winners a → HasCutPrices i cut a b
unfolding goods suppliers need most supplier_at least_winners most_winners
cut_of_parts i cut a b known needs mosts sellers least greatest = record {
  as_many_goods = ap length needs;
  as_many_suppliers = sellers.0;
  each_good = λ k below. record { same_need = ap (λ (xs : List ℕ). get_or xs k 0) needs; same_most = ap (λ (xs : List ℕ). get_or xs k 0) mosts };
  cut_supplier = cut_supplier_is cut a b i (sellers.1 i known ∙ nth_cut i cut (get_or a.suppliers i no_supplier));
  other_suppliers = λ n below other. same_supplier a b n (sellers.1 n below ∙ other_as_it_was i cut n (get_or a.suppliers n no_supplier) other);
  same_least_winners = least;
  same_most_winners = greatest;
}
