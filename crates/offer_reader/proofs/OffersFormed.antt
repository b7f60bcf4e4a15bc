-- The prices of rows of offers without a fault are well formed.
use Rattle.std.proofs.Common.{ℕ, zero, suc, ◌≡◌, ◌+◌, ◌≤◌, Bool, true, false, not, eqb, ◌&&◌, ◌||◌, List, [], ◌∷◌, ◌++◌, length, get_or, take, Option, None, Some, refl, sym, ap, ◌∙◌, subst, arith}
use Rattle.std.proofs.lemmas.Bool.{false≢true, eq-eqb}
use Rattle.std.proofs.lemmas.List.{length-append, take_more, take_all}
use Rattle.std.proofs.lemmas.List.Elements.{All-nil, All-cons, All-append, All-weaker}
use Rattle.std.proofs.lemmas.List.Folds.{list_any-append}
use Rattle.std.proofs.lemmas.List.Quantifiers.{all_pairs_push}
use Rattle.std.proofs.lemmas.List.Sums.{fold-append}
use Rattle.std.specs.Prelude.{All, is_none}
use Rattle.std.specs.List.{list_any, position_or_len, AllPairs}
use Rattle.std.specs.Str.{bytes_eq}
use Rattle.tqd_base.specs.declared.limits.TheConstants.{QTY_MAX}
use Rattle.bom_reader.specs.Names.{has_name, is_name, with_name}
use Rattle.bom_reader.specs.Faults.{first_fault}
use Rattle.bom_reader.specs.Rows.{Row, field, row_number}
use Rattle.bom_reader.proofs.FirstFault.{each-sound, fault_if-none}
use Rattle.bom_reader.proofs.NameFacts.{is_same}
use Rattle.bom_reader.proofs.NamePlaces.{has_name-added, has_name-stays, place-stays, same-places}
use Rattle.bom_reader.proofs.Places.{place_inside}
use Rattle.bom_reader.proofs.Units.{qty_of-within, there}
use Rattle.tqd_instance.specs.Parts.{IsPriceRow, SamePrice}
use Rattle.tqd_instance.specs.declared.parts.PriceRow.{PriceRow}
use Rattle.offer_reader.specs.Offers.{Wanted, OffersData, amount_of, from_of, from_units, good_of, no_offers, offer_fault_after, offers_of, part, price_row, same_offer, supplier, with_offer, with_price}
use Rattle.offer_reader.specs.declared.fault.OfferFault.TheVariants.{Name, From, Price, Twice}
use Rattle.offer_reader.proofs.NumberFacts.{good_inside, good_one}
use Rattle.offer_reader.proofs.RowTerms.{price_small}

-- the row states the price, where these suppliers offer goods
pub record States (wanted : Wanted) (suppliers : List (List ℕ)) (row : Row) (r : PriceRow) : Type 0 where
  pub known : has_name suppliers (supplier row) ≡ true
  pub supplier_is : position_or_len (bytes_eq (supplier row)) suppliers ≡ r.supplier
  pub from_is : from_units row ≡ r.from
  pub good_is : good_of wanted (part row) ≡ Some r.good

-- one of the rows does: each test that it passes, some row passes
pub record IsStatedIn (wanted : Wanted) (suppliers : List (List ℕ)) (rows : List Row) (r : PriceRow) : Type 0 where
  pub row : Row
  pub states : States wanted suppliers row r
  pub among : (p : Row → Bool) → p row ≡ true → list_any p rows ≡ true

pub record ArePricesOf (wanted : Wanted) (rows : List Row) (offers : OffersData) : Type 0 where
  pub in_range : All (IsPriceRow (length offers.suppliers) (length wanted.goods)) offers.prices
  pub stated : All (IsStatedIn wanted offers.suppliers rows) offers.prices
  pub one_each : AllPairs (λ a b. SamePrice a b → ⊥) offers.prices

-- a row without the faults of its fields, and of a repeat
pub record IsNewRow (rows : List Row) (row : Row) : Type 0 where
  pub from_there : is_none (from_of row) ≡ false
  pub amount_there : is_none (amount_of row) ≡ false
  pub new : list_any (same_offer row) rows ≡ false

or-true : (b : Bool) → (b || true) ≡ true
or-true true = refl
or-true false = refl

more_rows : (wanted : Wanted) (suppliers : List (List ℕ)) (rows : List Row) (row : Row) (r : PriceRow) → IsStatedIn wanted suppliers rows r → IsStatedIn wanted suppliers (rows ++ row ∷ []) r
more_rows wanted suppliers rows row r s = record {
  row = s.row;
  states = s.states;
  among = λ p passes. rw (list_any-append p rows (row ∷ []), s.among p passes) refl;
}

more_suppliers : (wanted : Wanted) (suppliers : List (List ℕ)) (name : List ℕ) (rows : List Row) (r : PriceRow) → IsStatedIn wanted suppliers rows r → IsStatedIn wanted (with_name suppliers name) rows r
more_suppliers wanted suppliers name rows r s = record {
  row = s.row;
  states = record {
    known = has_name-stays suppliers (supplier s.row) name s.states.known;
    supplier_is = place-stays suppliers (supplier s.row) name s.states.known ∙ s.states.supplier_is;
    from_is = s.states.from_is;
    good_is = s.states.good_is;
  };
  among = s.among;
}

not_fewer : (suppliers : List (List ℕ)) (name : List ℕ) → length suppliers ≤ length (with_name suppliers name)
not_fewer suppliers name = go (has_name suppliers name) refl where
  go : (b : Bool) → has_name suppliers name ≡ b → length suppliers ≤ length (with_name suppliers name)
  go true is = rw is (omega arith)
  go false is = rw (is, length-append) (omega arith)

wider : (n m goods : ℕ) (r : PriceRow) → n ≤ m → IsPriceRow n goods r → IsPriceRow m goods r
wider n m goods r small is = record { supplier = omega (arith, is.supplier, small); some = is.some; from = is.from; good = is.good; price = is.price }

-- the price that a row states
new_in_range : (wanted : Wanted) (suppliers : List (List ℕ)) (rows : List Row) (row : Row) (good : ℕ) → IsNewRow rows row → good_of wanted (part row) ≡ Some good
    → IsPriceRow (length (with_name suppliers (supplier row))) (length wanted.goods) (price_row (with_name suppliers (supplier row)) good row)
new_in_range wanted suppliers rows row good new named =
    let from = there (from_of row) new.from_there in
    let amount = there (amount_of row) new.amount_there in
    let bounds = qty_of-within 1 QTY_MAX (field 1 row) from.0 from.1 in
    record {
      supplier = place_inside (bytes_eq (supplier row)) (with_name suppliers (supplier row)) (has_name-added suppliers (supplier row));
      some = rw from.1 bounds.0;
      from = rw from.1 bounds.1;
      good = good_inside wanted (part row) good named;
      price = rw amount.1 (price_small (field 3 row) amount.0 amount.1);
    }

new_states : (wanted : Wanted) (suppliers : List (List ℕ)) (row : Row) (good : ℕ) → good_of wanted (part row) ≡ Some good
    → States wanted (with_name suppliers (supplier row)) row (price_row (with_name suppliers (supplier row)) good row)
new_states wanted suppliers row good named = record { known = has_name-added suppliers (supplier row); supplier_is = refl; from_is = refl; good_is = named }

new_stated : (wanted : Wanted) (suppliers : List (List ℕ)) (rows : List Row) (row : Row) (good : ℕ) → good_of wanted (part row) ≡ Some good
    → IsStatedIn wanted (with_name suppliers (supplier row)) (rows ++ row ∷ []) (price_row (with_name suppliers (supplier row)) good row)
new_stated wanted suppliers rows row good named = record {
  row = row;
  states = new_states wanted suppliers row good named;
  among = λ p passes. rw (list_any-append p rows (row ∷ []), passes) (or-true (list_any p rows));
}

-- two rows that state one price are of one supplier, beginning and part
same_price : (wanted : Wanted) (suppliers : List (List ℕ)) (a b : Row) (x y : PriceRow) → States wanted suppliers a x → States wanted suppliers b y → SamePrice x y → same_offer b a ≡ true
same_price wanted suppliers a b x y of_a of_b same =
    let places : position_or_len (bytes_eq (supplier b)) suppliers ≡ position_or_len (bytes_eq (supplier a)) suppliers = of_b.supplier_is ∙ sym same.supplier ∙ sym of_a.supplier_is in
    let suppliers_same : bytes_eq (supplier b) (supplier a) ≡ true = sym (same-places suppliers (supplier b) (supplier a) of_b.known of_a.known) ∙ eq-eqb _ _ places in
    let froms_same : eqb (from_units b) (from_units a) ≡ true = eq-eqb (from_units b) (from_units a) (of_b.from_is ∙ sym same.from ∙ sym of_a.from_is) in
    let parts : part b ≡ part a = good_one wanted (part b) (part a) x.good (of_b.good_is ∙ ap (λ k. Some k) (sym same.good)) of_a.good_is in
    rw (suppliers_same, froms_same, parts, is_same (part a)) refl

with_one : (wanted : Wanted) (rows : List Row) (row : Row) (offers : OffersData) (sellers offered : List (List ℕ)) (o : Option ℕ) → ArePricesOf wanted rows offers → IsNewRow rows row
    → good_of wanted (part row) ≡ o → ArePricesOf wanted (rows ++ row ∷ []) (with_price o row (record offers { sellers = sellers; offered = offered }))
with_one wanted rows row offers sellers offered None are new named = record {
  in_range = are.in_range;
  stated = All-weaker (IsStatedIn wanted offers.suppliers rows) (IsStatedIn wanted offers.suppliers (rows ++ row ∷ [])) (λ r s. more_rows wanted offers.suppliers rows row r s) offers.prices are.stated;
  one_each = are.one_each;
}
with_one wanted rows row offers sellers offered (Some good) are new named =
    let name = supplier row in
    let suppliers = with_name offers.suppliers name in
    let added = price_row suppliers good row in
    let InRange = IsPriceRow (length suppliers) (length wanted.goods) in
    let Stated = IsStatedIn wanted suppliers (rows ++ row ∷ []) in
    record {
      in_range = All-append InRange offers.prices (added ∷ [])
          (All-weaker (IsPriceRow (length offers.suppliers) (length wanted.goods)) InRange (λ r is. wider (length offers.suppliers) (length suppliers) (length wanted.goods) r (not_fewer offers.suppliers name) is) offers.prices are.in_range)
          (All-cons InRange added [] (new_in_range wanted offers.suppliers rows row good new named) (All-nil InRange));
      stated = All-append Stated offers.prices (added ∷ [])
          (All-weaker (IsStatedIn wanted offers.suppliers rows) Stated (λ r s. more_suppliers wanted offers.suppliers name (rows ++ row ∷ []) r (more_rows wanted offers.suppliers rows row r s)) offers.prices are.stated)
          (All-cons Stated added [] (new_stated wanted offers.suppliers rows row good named) (All-nil Stated));
      one_each = all_pairs_push (λ a b. SamePrice a b → ⊥) offers.prices added are.one_each (λ k d inside same.
          let s = more_suppliers wanted offers.suppliers name rows (get_or offers.prices k d) (are.stated k d inside) in
          false≢true (sym new.new ∙ s.among (same_offer row) (same_price wanted suppliers s.row row (get_or offers.prices k d) added s.states (new_states wanted offers.suppliers row good named) same)));
    }

new_row : (wanted : Wanted) (earlier : List Row) (row : Row) → offer_fault_after wanted earlier row ≡ None → IsNewRow earlier row
new_row wanted earlier row none =
    let at = row_number earlier in
    let a = fault_if-none (not (is_name (supplier row) && is_name (part row))) (Name at) _ none in
    let b = fault_if-none (is_none (from_of row)) (From at) _ a.1 in
    let c = fault_if-none (is_none (amount_of row)) (Price at) _ b.1 in
    let d = fault_if-none (list_any (same_offer row) earlier) (Twice at) _ c.1 in
    record { from_there = b.0; amount_there = c.0; new = d.0 }

no_prices : (wanted : Wanted) → ArePricesOf wanted [] no_offers
no_prices wanted = record {
  in_range = All-nil (IsPriceRow 0 (length wanted.goods));
  stated = All-nil (IsStatedIn wanted [] []);
  one_each = λ i j d ordered inside. absurd (omega arith);
}

first_prices : (wanted : Wanted) (rows : List Row) → first_fault (offer_fault_after wanted) [] rows ≡ None → (i : ℕ) → i ≤ length rows → ArePricesOf wanted (take i rows) (offers_of wanted (take i rows))
first_prices wanted rows none zero small = no_prices wanted
first_prices wanted rows none (suc i) small =
    let row = get_or rows i [] in
    let before = first_prices wanted rows none i (omega arith) in
    let offers = offers_of wanted (take i rows) in
    let new = new_row wanted (take i rows) row (each-sound (offer_fault_after wanted) [] rows none i [] (omega arith)) in
    let after = with_one wanted (take i rows) row offers (with_name offers.sellers (supplier row)) (with_name offers.offered (part row)) (good_of wanted (part row)) before new refl in
    let same : offers_of wanted (take i rows ++ row ∷ []) ≡ with_offer wanted offers row = fold-append (with_offer wanted) no_offers (take i rows) (row ∷ []) in
    let plus : i + 1 ≡ suc i = omega arith in
    let more : take i rows ++ row ∷ [] ≡ take (suc i) rows = sym (take_more rows i [] (omega arith)) ∙ ap (λ n. take n rows) plus in
    subst (λ (some : List Row). ArePricesOf wanted some (offers_of wanted some)) more
    (subst (λ (o : OffersData). ArePricesOf wanted (take i rows ++ row ∷ []) o) (sym same) after)

pub all_prices : (wanted : Wanted) (rows : List Row) → first_fault (offer_fault_after wanted) [] rows ≡ None → ArePricesOf wanted rows (offers_of wanted rows)
all_prices wanted rows none =
    subst (λ (some : List Row). ArePricesOf wanted some (offers_of wanted some)) (take_all (length rows) rows (omega arith)) (first_prices wanted rows none (length rows) (omega arith))
