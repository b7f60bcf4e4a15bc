-- Parts that the generator makes are well formed, and pass every test of a job.
use Rattle.std.proofs.Common.{ℕ, suc, zero, ◌≡◌, ◌+◌, ◌<◌, ◌≤◌, ◌==◌, ◌&&◌, Bool, true, false, List, [], ◌∷◌, length, get_or, filter, find, All, Contains, Option, Some, None, option_map, arith, refl, ap, sym, subst, inl, inr}
use Rattle.std.specs.List.Sorted.{IsStrictlyIncreasing}
use Rattle.std.proofs.lemmas.Bool.Decides.{nat_tests}
use Rattle.std.proofs.lemmas.List.Elements.{All-map, All-filter, All-contains, All-contains_itself, filter_passes}
use Rattle.std.proofs.lemmas.List.Folds.{Any-from_list_any, list_any-from_Any}
use Rattle.tqd_instance.specs.declared.parts.PriceRow.{PriceRow}
use Rattle.tqd_instance.specs.PartsData.{PartsData}
use Rattle.tqd_instance.specs.Parts.{AreFroms, IsPriceRow, IsWellFormed, froms_stated}
use Rattle.tqd_instance.specs.Formed.{IsInRanges, HasKeysOnce}
use Rattle.tqd_instance.specs.Built.{offers, price_stated, LacksPrice, Passes}
use Rattle.tqd_instance.proofs.Froms.{froms_one, few_all, formed_from}
use Rattle.order_gen.specs.declared.offers.Starts.{Starts}
use Rattle.order_gen.proofs.Lists.{filter_has, map_has, find_some}
use Rattle.order_gen.proofs.OfferList.{IsStart, AreRising, IsOffered}
use Rattle.order_gen.specs.GenParts.{parts_from}
use Rattle.order_gen.proofs.Made.{IsMade, parts_made, starts_of}

-- the numbers at which the intervals of each supplier begin
abbrev pub three : Starts → List ℕ
three starts = 1 ∷ starts.second ∷ starts.third ∷ []

is_row : (suppliers goods : ℕ) (starts : Starts) → AreRising starts → starts.third ≤ 1000003 → (r : PriceRow) → IsOffered starts suppliers goods r → IsPriceRow suppliers goods r
is_row suppliers goods starts rise third r o = record {
  supplier = omega (arith, o.offer.supplier, o.i_in);
  some = elim o.offer.start [ inl a ↦ omega arith | inr rest ↦ elim rest [ inl b ↦ omega (arith, rise.after_one) | inr c ↦ omega (arith, rise.after_one, rise.after_second) ] ];
  from = elim o.offer.start [ inl a ↦ omega arith | inr rest ↦ elim rest [ inl b ↦ omega (arith, rise.after_second) | inr c ↦ omega arith ] ];
  good = omega (arith, o.offer.good, o.k_in);
  price = omega (arith, o.offer.cheap);
}

made_ranges : (starts : Starts) (parts : PartsData) → IsMade starts parts → IsInRanges parts
made_ranges starts parts made = record {
  suppliers = made.few_suppliers;
  needs = λ k d below. (let n = made.needs k d below in (n.some, omega (arith, n.few)));
  prices = λ k d below.
      is_row parts.suppliers (length parts.needs) starts made.rising made.third (get_or parts.prices k d)
      (made.offered (get_or parts.prices k d) (All-contains_itself parts.prices k d below));
  stocks = λ k d below. absurd (omega (arith, ap length made.no_stocks));
  totals = λ k d below. absurd (omega (arith, ap length made.no_totals));
  shares = λ k d below. absurd (omega (arith, ap length made.no_shares));
  fees = λ k d below. absurd (omega (arith, ap length made.no_fees));
  overs = λ k d below. absurd (omega (arith, ap length made.no_overs));
  least_winners = omega (arith, made.least_winners);
  most_winners = omega (arith, made.most_winners);
}

made_once : (starts : Starts) (parts : PartsData) → IsMade starts parts → HasKeysOnce parts
made_once starts parts made = record {
  one_price = made.differ;
  one_stock = λ i j d less below. absurd (omega (arith, ap length made.no_stocks));
  one_total = λ i j d less below. absurd (omega (arith, ap length made.no_totals));
  one_share = λ i j d less below. absurd (omega (arith, ap length made.no_shares));
  one_fee = λ i j d less below. absurd (omega (arith, ap length made.no_fees));
  one_over = λ i j d less below. absurd (omega (arith, ap length made.no_overs));
}

eq_test : (a b : ℕ) → a ≡ b → (a == b) ≡ true
eq_test a b e = grind (arith, nat_tests)

test_eq : (a b : ℕ) → (a == b) ≡ true → a ≡ b
test_eq a b e = grind (arith, nat_tests)

and_left : (a b : Bool) → (a && b) ≡ true → a ≡ true
and_left true b e = refl
and_left false b e = e

and_right : (a b : Bool) → (a && b) ≡ true → b ≡ true
and_right true b e = e
and_right false b e = absurd (cc)

-- a row of the prices that states a beginning of a supplier
pub record States (parts : PartsData) (i from : ℕ) : Type 0 where
  pub row : PriceRow
  pub there : Contains parts.prices row
  pub supplier : row.supplier ≡ i
  pub begins : row.from ≡ from

states : (parts : PartsData) (i from : ℕ) → Contains (froms_stated parts i) from → States parts i from
states parts i from has =
    let rows = filter (λ r. r.supplier == i) parts.prices in
    let each : All (λ (r : PriceRow). States parts i r.from) rows = (λ k d below. record {
      row = get_or rows k d;
      there = All-filter (λ (r : PriceRow). r.supplier == i) (Contains parts.prices) parts.prices (All-contains_itself parts.prices) k d below;
      supplier = test_eq (get_or rows k d).supplier i (filter_passes (λ (r : PriceRow). r.supplier == i) parts.prices k d below);
      begins = refl;
    }) in
    All-contains (States parts i) (froms_stated parts i) from (All-map (States parts i) (λ (r : PriceRow). r.from) rows each) has

stated_start : (starts : Starts) (parts : PartsData) (i from : ℕ) → IsMade starts parts → Contains (froms_stated parts i) from → IsStart starts from
stated_start starts parts i from made has =
    let s = states parts i from has in
    subst (IsStart starts) s.begins (made.offered s.row s.there).offer.start

stated_supplier : (starts : Starts) (parts : PartsData) (i from : ℕ) → IsMade starts parts → Contains (froms_stated parts i) from → i < parts.suppliers
stated_supplier starts parts i from made has =
    let s = states parts i from has in
    let o = made.offered s.row s.there in
    omega (arith, o.i_in, o.offer.supplier, s.supplier)

start_stated : (starts : Starts) (parts : PartsData) (i from : ℕ) → IsMade starts parts → i < parts.suppliers → IsStart starts from → Contains (froms_stated parts i) from
start_stated starts parts i from made i_in start =
    let o = made.offers i 0 from i_in (omega (arith, made.some_goods)) start in
    let kept = filter_has (λ (r : PriceRow). r.supplier == i) parts.prices o.row o.there.0 o.there.1 o.there.2 (eq_test o.row.supplier i o.supplier) in
    subst (Contains (froms_stated parts i)) o.begins (map_has (λ (r : PriceRow). r.from) (filter (λ r. r.supplier == i) parts.prices) o.row kept.0 kept.1 kept.2)

in_three : (starts : Starts) (from : ℕ) → IsStart starts from → Contains (three starts) from
in_three starts from (inl e) = (0, omega arith, sym e)
in_three starts from (inr (inl e)) = (1, omega arith, sym e)
in_three starts from (inr (inr e)) = (2, omega arith, sym e)

from_three : (starts : Starts) (from k : ℕ) → k < 3 → get_or (three starts) k from ≡ from → IsStart starts from
from_three starts from zero below is = inl (sym is)
from_three starts from (suc zero) below is = inr (inl (sym is))
from_three starts from (suc (suc zero)) below is = inr (inr (sym is))
from_three starts from (suc (suc (suc k))) below is = absurd (omega arith)

three_rise : (starts : Starts) → AreRising starts → IsStrictlyIncreasing (three starts)
three_rise starts rise = at_place
  where
    at_place : (k : ℕ) → k + 1 < 3 → get_or (three starts) k 0 < get_or (three starts) (k + 1) 0
    at_place zero below = rise.after_one
    at_place (suc zero) below = rise.after_second
    at_place (suc (suc k)) below = absurd (omega arith)

pub are_three : (starts : Starts) (parts : PartsData) (i : ℕ) → IsMade starts parts → i < parts.suppliers → AreFroms parts i (three starts)
are_three starts parts i made i_in = record {
  rising = three_rise starts made.rising;
  stated = λ from. (
    (λ has. start_stated starts parts i from made i_in (from_three starts from has.0 has.1 has.2)),
    (λ has. in_three starts from (stated_start starts parts i from made has)),
  );
}

pub made_formed : (starts : Starts) (parts : PartsData) → IsMade starts parts → IsWellFormed parts
made_formed starts parts made =
    let ranges = made_ranges starts parts made in
    formed_from parts ranges (made_once starts parts made)
    (few_all parts ranges (λ i froms i_in are. omega (arith, ap length (froms_one parts i froms (three starts) are (are_three starts parts i made i_in)))))

-- a row that offers a good
record Offers (parts : PartsData) (i k : ℕ) : Type 0 where
  row : PriceRow
  there : Contains parts.prices row
  good : row.good ≡ k

offers_row : (parts : PartsData) (i k : ℕ) → offers parts i k ≡ true → Offers parts i k
unfolding offers
offers_row parts i k is =
    let some = Any-from_list_any (λ (r : PriceRow). r.supplier == i && r.good == k) parts.prices is in
    record {
      row = some.1;
      there = (some.0, some.2, some.3);
      good = test_eq some.1.good k (and_right (some.1.supplier == i) (some.1.good == k) some.4);
    }

is_offered : (starts : Starts) (parts : PartsData) (i k : ℕ) → IsMade starts parts → offers parts i k ≡ true → k < length parts.needs
is_offered starts parts i k made is =
    let o = offers_row parts i k is in
    let f = made.offered o.row o.there in
    omega (arith, f.k_in, f.offer.good, o.good)

-- each supplier offers each good
pub all_offered : (starts : Starts) (parts : PartsData) (i k : ℕ) → IsMade starts parts → i < parts.suppliers → k < length parts.needs → offers parts i k ≡ true
unfolding offers
all_offered starts parts i k made i_in k_in =
    let o = made.offers i k 1 i_in k_in (inl refl) in
    let passes : (o.row.supplier == i && o.row.good == k) ≡ true = rw (eq_test o.row.supplier i o.supplier, eq_test o.row.good k o.good) refl in
    list_any-from_Any (λ (r : PriceRow). r.supplier == i && r.good == k) parts.prices (o.there.0, o.row, o.there.1, o.there.2, passes)

none_found : (o : Option PriceRow) → option_map (λ (r : PriceRow). r.price) o ≡ None → o ≡ None
none_found None e = refl
none_found (Some r) e = absurd (cc)

lacks_none : (starts : Starts) (parts : PartsData) (i from k : ℕ) → IsMade starts parts → LacksPrice parts i from k → ⊥
unfolding price_stated
lacks_none starts parts i from k made lacks =
    let start = stated_start starts parts i from made lacks.interval in
    let i_in = stated_supplier starts parts i from made lacks.interval in
    let k_in = is_offered starts parts i k made lacks.offered in
    let o = made.offers i k from i_in k_in start in
    let test = λ (r : PriceRow). r.supplier == i && r.from == from && r.good == k in
    let passes : test o.row ≡ true =
    rw (eq_test o.row.supplier i o.supplier, eq_test o.row.from from o.begins, eq_test o.row.good k o.good) refl in
    find_some test parts.prices o.row o.there.0 o.there.1 o.there.2 passes (none_found (find test parts.prices) lacks.missing)

pub made_passes : (starts : Starts) (parts : PartsData) → IsMade starts parts → Passes parts
made_passes starts parts made = record {
  few_goods = made.few_goods;
  prices = λ i from k lacks. lacks_none starts parts i from k made lacks;
  shares = λ i bad. absurd (omega (arith, bad.2, ap length made.no_shares));
  winners = omega (arith, made.least_winners, made.most_winners);
}

-- the parts that are drawn from a state
pub drawn_formed : (state goods suppliers : ℕ) → 1 ≤ goods → goods ≤ 1000 → 1 ≤ suppliers → suppliers ≤ 64 → IsWellFormed (parts_from state goods suppliers)
drawn_formed state goods suppliers some few some_suppliers few_suppliers =
    made_formed (starts_of state goods suppliers) (parts_from state goods suppliers) (parts_made state goods suppliers some few some_suppliers few_suppliers)

pub drawn_passes : (state goods suppliers : ℕ) → 1 ≤ goods → goods ≤ 1000 → 1 ≤ suppliers → suppliers ≤ 64 → Passes (parts_from state goods suppliers)
drawn_passes state goods suppliers some few some_suppliers few_suppliers =
    made_passes (starts_of state goods suppliers) (parts_from state goods suppliers) (parts_made state goods suppliers some few some_suppliers few_suppliers)
