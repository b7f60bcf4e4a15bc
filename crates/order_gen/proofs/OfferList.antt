-- What the offers of the generator are.
use Rattle.std.proofs.Common.{ℕ, ◌≡◌, ◌-◌, ◌*◌, ◌<◌, ◌≤◌, ◌⊎◌, List, Contains, All, arith, refl, sym, inl, inr}
use Rattle.std.specs.List.{AllPairs}
use Rattle.std.proofs.lemmas.List.Elements.{All-contains}
use Rattle.tqd_instance.specs.declared.parts.PriceRow.{PriceRow}
use Rattle.tqd_instance.specs.Parts.{SamePrice}
use Rattle.order_gen.specs.declared.offers.Starts.{Starts}
use Rattle.order_gen.specs.declared.offers.Discounts.{Discounts}
use Rattle.order_gen.specs.Draws.{state_after, draw}
use Rattle.order_gen.specs.GenParts.{joined, offer, draws_before, discounts_from, base_price, good_offers, supplier_offers, all_offers}
use Rattle.order_gen.proofs.Lists.{joined_has, joined_from, joined_pairs, all_three, pairs_three}

-- one of the three numbers at which the intervals begin
abbrev pub IsStart : Starts → ℕ → Type 0
IsStart starts from = (from ≡ 1) ⊎ ((from ≡ starts.second) ⊎ (from ≡ starts.third))

-- the intervals begin one after the other
pub record AreRising (starts : Starts) : Type 0 where
  pub after_one : 1 < starts.second
  pub after_second : starts.second < starts.third

-- an offer of good k by supplier i
pub record IsOfferOf (starts : Starts) (i k : ℕ) (r : PriceRow) : Type 0 where
  pub supplier : r.supplier ≡ i
  pub good : r.good ≡ k
  pub start : IsStart starts r.from
  pub cheap : r.price ≤ 2000000

-- an offer of some good by some supplier
pub record IsOffered (starts : Starts) (suppliers goods : ℕ) (r : PriceRow) : Type 0 where
  pub i : ℕ
  pub k : ℕ
  pub i_in : i < suppliers
  pub k_in : k < goods
  pub offer : IsOfferOf starts i k r

-- an offer in the list
pub record HasOffer (rows : List PriceRow) (i k from : ℕ) : Type 0 where
  pub row : PriceRow
  pub there : Contains rows row
  pub supplier : row.supplier ≡ i
  pub good : row.good ≡ k
  pub begins : row.from ≡ from

price_cheap : (base discount : ℕ) → base < 20000 → 100 * base - base * discount ≤ 2000000
price_cheap base discount few = omega arith

pub block_offers : (i : ℕ) (starts : Starts) (discounts : Discounts) (k base : ℕ) → base < 20000
    → All (IsOfferOf starts i k) (good_offers i starts discounts k base)
unfolding good_offers
block_offers i starts discounts k base few =
    all_three (IsOfferOf starts i k)
    (offer i 1 k (100 * base))
    (offer i starts.second k (100 * base - base * discounts.second))
    (offer i starts.third k (100 * base - base * discounts.third))
    (record { supplier = refl; good = refl; start = inl refl; cheap = omega arith })
    (record { supplier = refl; good = refl; start = inr (inl refl); cheap = price_cheap base discounts.second few })
    (record { supplier = refl; good = refl; start = inr (inr refl); cheap = price_cheap base discounts.third few })

pub block_has : (i : ℕ) (starts : Starts) (discounts : Discounts) (k base from : ℕ) → IsStart starts from
    → HasOffer (good_offers i starts discounts k base) i k from
unfolding good_offers
block_has i starts discounts k base from (inl e) = record {
  row = record { supplier = i; from = 1; good = k; price = 100 * base };
  there = (0, omega arith, refl);
  supplier = refl;
  good = refl;
  begins = sym e;
}
block_has i starts discounts k base from (inr (inl e)) = record {
  row = record { supplier = i; from = starts.second; good = k; price = 100 * base - base * discounts.second };
  there = (1, omega arith, refl);
  supplier = refl;
  good = refl;
  begins = sym e;
}
block_has i starts discounts k base from (inr (inr e)) = record {
  row = record { supplier = i; from = starts.third; good = k; price = 100 * base - base * discounts.third };
  there = (2, omega arith, refl);
  supplier = refl;
  good = refl;
  begins = sym e;
}

-- no price of the supplier, interval and good stands twice
abbrev pub Differ : PriceRow → PriceRow → Type 0
Differ a b = SamePrice a b → ⊥

pub block_pairs : (i : ℕ) (starts : Starts) (discounts : Discounts) (k base : ℕ) → AreRising starts
    → AllPairs Differ (good_offers i starts discounts k base)
unfolding good_offers
block_pairs i starts discounts k base rise =
    pairs_three Differ
    (offer i 1 k (100 * base))
    (offer i starts.second k (100 * base - base * discounts.second))
    (offer i starts.third k (100 * base - base * discounts.third))
    (λ same. omega (arith, same.from, rise.after_one))
    (λ same. omega (arith, same.from, rise.after_one, rise.after_second))
    (λ same. omega (arith, same.from, rise.after_second))

base_few : (s k : ℕ) → base_price s k < 20000
unfolding base_price draw
base_few s k = omega arith

pub offered : (s : ℕ) (starts : Starts) (goods suppliers : ℕ) (r : PriceRow) → Contains (all_offers s starts goods suppliers) r
    → IsOffered starts suppliers goods r
unfolding all_offers supplier_offers
offered s starts goods suppliers r has =
    let a = joined_from suppliers (λ i. joined goods (λ k. good_offers i starts (discounts_from (state_after s (draws_before goods i))) k (base_price (state_after s (draws_before goods i)) k))) r has in
    let t = state_after s (draws_before goods a.0) in
    let b = joined_from goods (λ k. good_offers a.0 starts (discounts_from t) k (base_price t k)) r a.2 in
    record {
      i = a.0;
      k = b.0;
      i_in = a.1;
      k_in = b.1;
      offer = All-contains (IsOfferOf starts a.0 b.0) (good_offers a.0 starts (discounts_from t) b.0 (base_price t b.0)) r
          (block_offers a.0 starts (discounts_from t) b.0 (base_price t b.0) (base_few t b.0)) b.2;
    }

pub offers_have : (s : ℕ) (starts : Starts) (goods suppliers i k from : ℕ) → i < suppliers → k < goods → IsStart starts from
    → HasOffer (all_offers s starts goods suppliers) i k from
unfolding all_offers supplier_offers
offers_have s starts goods suppliers i k from i_in k_in start =
    let t = state_after s (draws_before goods i) in
    let h = block_has i starts (discounts_from t) k (base_price t k) from start in
    record {
      row = h.row;
      there = joined_has suppliers (λ i. joined goods (λ k. good_offers i starts (discounts_from (state_after s (draws_before goods i))) k (base_price (state_after s (draws_before goods i)) k))) i h.row i_in
          (joined_has goods (λ k. good_offers i starts (discounts_from t) k (base_price t k)) k h.row k_in h.there);
      supplier = h.supplier;
      good = h.good;
      begins = h.begins;
    }

pub offers_differ : (s : ℕ) (starts : Starts) (goods suppliers : ℕ) → AreRising starts → AllPairs Differ (all_offers s starts goods suppliers)
unfolding all_offers supplier_offers
offers_differ s starts goods suppliers rise =
    joined_pairs Differ suppliers (λ i. joined goods (λ k. good_offers i starts (discounts_from (state_after s (draws_before goods i))) k (base_price (state_after s (draws_before goods i)) k)))
    (λ i i_in.
    let t = state_after s (draws_before goods i) in
    joined_pairs Differ goods (λ k. good_offers i starts (discounts_from t) k (base_price t k))
    (λ k k_in. block_pairs i starts (discounts_from t) k (base_price t k) rise)
    (λ k l a b less l_in has_a has_b same.
    let of_a = at_block t i k a has_a in
    let of_b = at_block t i l b has_b in
    omega (arith, of_a.good, of_b.good, same.good)))
    (λ i j a b less j_in has_a has_b same.
    let of_a = in_supplier i a has_a in
    let of_b = in_supplier j b has_b in
    omega (arith, of_a, of_b, same.supplier))
  where
    at_block : (t i k : ℕ) (r : PriceRow) → Contains (good_offers i starts (discounts_from t) k (base_price t k)) r → IsOfferOf starts i k r
    at_block t i k r has =
        All-contains (IsOfferOf starts i k) (good_offers i starts (discounts_from t) k (base_price t k)) r
        (block_offers i starts (discounts_from t) k (base_price t k) (base_few t k)) has

    in_supplier : (i : ℕ) (r : PriceRow)
        → Contains (joined goods (λ k. good_offers i starts (discounts_from (state_after s (draws_before goods i))) k (base_price (state_after s (draws_before goods i)) k))) r
        → r.supplier ≡ i
    in_supplier i r has =
        let t = state_after s (draws_before goods i) in
        let b = joined_from goods (λ k. good_offers i starts (discounts_from t) k (base_price t k)) r has in
        (at_block t i b.0 r b.2).supplier
