-- The parts of a job that offers give are well formed.
use Rattle.std.proofs.Common.{ℕ, ◌≡◌, ◌≢◌, ◌≤◌, Bool, true, false, eqb, ◌||◌, List, [], ◌∷◌, ◌++◌, length, map, filter, fold, refl, sym, ap, ◌∙◌, subst, arith}
use Rattle.std.proofs.lemmas.Bool.{eq-eqb, eqb-true, false≢true}
use Rattle.std.proofs.lemmas.Bool.Decides.{Decides-eqb}
use Rattle.std.proofs.lemmas.Grind.{get_or_default_zero}
use Rattle.std.proofs.lemmas.List.Folds.{list_any-append}
use Rattle.std.proofs.lemmas.List.Kept.{AllPairs-from_increasing}
use Rattle.std.proofs.lemmas.Map.Made.{IsDistinct-from_AllPairs, length-le_from_is_member}
use Rattle.std.proofs.lemmas.Map.Views.{Contains-from_any, list_any-from_Contains}
use Rattle.std.specs.Cmp.{nat_eq_equiv}
use Rattle.std.specs.Prelude.{All, Contains, if◌then◌else◌}
use Rattle.std.specs.List.{list_any, AllPairs}
use Rattle.std.specs.List.Sorted.{IsStrictlyIncreasing}
use Rattle.tqd_base.specs.declared.limits.TheConstants.{QTY_MAX}
use Rattle.tqd_instance.specs.PartsData.{PartsData}
use Rattle.tqd_instance.specs.Parts.{IsPriceRow}
use Rattle.tqd_instance.specs.declared.parts.PriceRow.{PriceRow}
use Rattle.bom_explode.specs.Needs.{Needed, IsNeeded}
use Rattle.bom_reader.specs.Rows.{Row}
use Rattle.offer_reader.specs.Offers.{Wanted, OffersData, froms_of, with_number}
use Rattle.offer_reader.specs.Book.{IsBook, book_of, parts_of}
use Rattle.offer_reader.specs.Steps.{ReadingData, HasOffers, offers_read}
use Rattle.offer_reader.proofs.OffersFormed.{ArePricesOf, all_prices}
use Rattle.offer_reader.proofs.PriceFacts.{froms_few}

-- the different numbers of a list have each of its numbers
member_stays : (numbers : List ℕ) (n q : ℕ) → list_any (eqb q) numbers ≡ true → list_any (eqb q) (with_number numbers n) ≡ true
member_stays numbers n q is = go (list_any (λ m. eqb m n) numbers) where
  go : (b : Bool) → list_any (eqb q) (if b then numbers else numbers ++ n ∷ []) ≡ true
  go true = is
  go false = rw (list_any-append (eqb q) numbers (n ∷ []), is) refl

or_last : (a b : Bool) → b ≡ true → (a || b) ≡ true
or_last true b is = refl
or_last false b is = is

flipped : (numbers : List ℕ) (n : ℕ) → list_any (λ m. eqb m n) numbers ≡ true → list_any (eqb n) numbers ≡ true
flipped [] n is = is
flipped (m ∷ numbers) n is = at_head (eqb m n) refl is (flipped numbers n) where
  at_head : (b : Bool) → eqb m n ≡ b → (b || list_any (λ k. eqb k n) numbers) ≡ true → (list_any (λ k. eqb k n) numbers ≡ true → list_any (eqb n) numbers ≡ true) → (eqb n m || list_any (eqb n) numbers) ≡ true
  at_head true same e later = rw (eq-eqb n m (sym (eqb-true m n same))) refl
  at_head false other e later = or_last (eqb n m) (list_any (eqb n) numbers) (later e)

member_added : (numbers : List ℕ) (n : ℕ) → list_any (eqb n) (with_number numbers n) ≡ true
member_added numbers n = go (list_any (λ m. eqb m n) numbers) refl where
  or-true : (b : Bool) → (b || true) ≡ true
  or-true true = refl
  or-true false = refl

  go : (b : Bool) → list_any (λ m. eqb m n) numbers ≡ b → list_any (eqb n) (if b then numbers else numbers ++ n ∷ []) ≡ true
  go true is = flipped numbers n is
  go false is = rw (list_any-append (eqb n) numbers (n ∷ []), eq-eqb n n refl) (or-true (list_any (eqb n) numbers))

members_stay : (xs acc : List ℕ) (q : ℕ) → list_any (eqb q) acc ≡ true → list_any (eqb q) (fold with_number acc xs) ≡ true
members_stay [] acc q is = is
members_stay (x ∷ xs) acc q is = members_stay xs (with_number acc x) q (member_stays acc x q is)

members_added : (xs acc : List ℕ) (q : ℕ) → list_any (eqb q) xs ≡ true → list_any (eqb q) (fold with_number acc xs) ≡ true
members_added [] acc q is = absurd (false≢true is)
members_added (x ∷ xs) acc q is = at_head (eqb q x) refl is (members_added xs (with_number acc x) q) where
  at_head : (b : Bool) → eqb q x ≡ b → (b || list_any (eqb q) xs) ≡ true → (list_any (eqb q) xs ≡ true → list_any (eqb q) (fold with_number (with_number acc x) xs) ≡ true)
      → list_any (eqb q) (fold with_number (with_number acc x) xs) ≡ true
  at_head true same e later = members_stay xs (with_number acc x) q (subst (λ (n : ℕ). list_any (eqb q) (with_number acc n) ≡ true) (eqb-true q x same) (member_added acc q))
  at_head false other e later = later e

below_apart : (xs : List ℕ) → IsStrictlyIncreasing xs → AllPairs (λ a b. a ≢ b) xs
below_apart xs rising = λ i j d ordered inside same. absurd (omega (arith, AllPairs-from_increasing xs rising i j d ordered inside, same))

-- so the numbers at which the intervals of a supplier begin are few
few_froms : (prices : List PriceRow) (i : ℕ) (froms : List ℕ) → IsStrictlyIncreasing froms
    → ((n : ℕ) → Contains froms n → Contains (map (λ r. r.from) (filter (λ r. eqb r.supplier i) prices)) n) → length froms ≤ length (froms_of prices i)
few_froms prices i froms rising stated =
    length-le_from_is_member nat_eq_equiv froms (froms_of prices i) (IsDistinct-from_AllPairs Decides-eqb froms (below_apart froms rising))
    (λ q there. members_added (map (λ r. r.from) (filter (λ r. eqb r.supplier i) prices)) [] q
    (list_any-from_Contains nat_eq_equiv q _ (stated q (Contains-from_any (λ x y same. eqb-true x y same) q froms there))))

needs_in_range : (needs : Needed) → IsNeeded needs → All (λ n. (1 ≤ n) × (n ≤ QTY_MAX)) needs.units
needs_in_range needs are = λ k d inside.
    let same = get_or_default_zero needs.units k d inside in
    (rw same (are.some k inside), rw same (are.most k inside))

none_in : {X : Type 0} (P : X → Type 0) → All P []
none_in P = λ k d inside. absurd (omega arith)

-- what was read of offers makes a book
book_formed : (wanted : Wanted) (needs : Needed) (rows : List Row) (reading : ReadingData) → IsNeeded needs → wanted.goods ≡ needs.goods → HasOffers wanted rows reading
    → IsBook (book_of needs.units (offers_read reading))
book_formed wanted needs rows reading needed goods has =
    let prices = subst (λ (o : OffersData). ArePricesOf wanted rows o) (sym has.offers) (all_prices wanted rows has.sound) in
    let size : length wanted.goods ≡ length needs.units = ap length goods ∙ sym needed.as_many in
    record {
      suppliers = refl;
      few = has.goods.few_suppliers;
      formed = record {
        suppliers = has.goods.few_suppliers;
        needs = needs_in_range needs needed;
        prices = subst (λ n. All (IsPriceRow (length reading.goods.suppliers) n) reading.goods.rows) size prices.in_range;
        stocks = none_in _;
        totals = none_in _;
        shares = none_in _;
        fees = none_in _;
        overs = none_in _;
        least_winners = omega arith;
        most_winners = omega arith;
        one_price = prices.one_each;
        one_stock = λ i j d ordered inside same. absurd (omega arith);
        one_total = λ i j d ordered inside same. absurd (omega arith);
        one_share = λ i j d ordered inside same. absurd (omega arith);
        one_fee = λ i j d ordered inside same. absurd (omega arith);
        one_over = λ i j d ordered inside same. absurd (omega arith);
        few_intervals = λ i froms are. omega (arith, few_froms reading.goods.rows i froms are.rising (λ n there. (are.stated n).0 there), froms_few reading.goods has.goods i);
      };
    }

pub book_from : (wanted : Wanted) (needs : Needed) (rows : List Row) (reading : ReadingData) (suppliers : List (List ℕ)) (parts : PartsData) → IsNeeded needs → wanted.goods ≡ needs.goods
    → HasOffers wanted rows reading → suppliers ≡ reading.goods.suppliers → parts ≡ parts_of needs.units (length reading.goods.suppliers) reading.goods.rows
    → IsBook (record { sellers = reading.sellers; offered = reading.offered; suppliers = suppliers; parts = parts })
book_from wanted needs rows reading suppliers parts needed goods has suppliers_are parts_are =
    rw (suppliers_are, parts_are) (book_formed wanted needs rows reading needed goods has)
