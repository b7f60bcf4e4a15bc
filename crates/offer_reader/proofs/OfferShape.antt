-- What rows of offers say, read off all rows at once.
use Rattle.std.proofs.Common.{ℕ, suc, zero, ◌≡◌, ◌+◌, ◌<◌, ◌≤◌, Bool, true, false, eqb, ◌&&◌, List, [], ◌∷◌, ◌++◌, length, map, filter, fold, get_or, take, append_assoc, Option, None, Some, is_some, unwrap_or, refl, sym, ap, ◌∙◌, subst, arith}
use Rattle.std.proofs.lemmas.Bool.{and_from, and_parts, eq-eqb, eqb-true}
use Rattle.std.proofs.lemmas.List.{append-nil, take_all, take_more}
use Rattle.std.proofs.lemmas.List.Elements.{All-filter, All-head, All-tail, filter_passes}
use Rattle.std.proofs.lemmas.List.Folds.{Any-from_list_any, list_any_at}
use Rattle.std.proofs.lemmas.List.Sums.{passes_at_first}
use Rattle.std.specs.Cmp.Lexicographic.{bytes_decides}
use Rattle.std.specs.List.{list_any, position_or_len, AllZip}
use Rattle.std.specs.Prelude.{All, Any}
use Rattle.std.specs.Str.{bytes_eq}
use Rattle.tqd_base.specs.declared.limits.TheConstants.{SUPPLIERS_MAX, INTERVALS_MAX}
use Rattle.bom_reader.specs.Faults.{first_fault}
use Rattle.bom_reader.specs.Names.{has_name, with_name, with_names}
use Rattle.bom_reader.specs.Rows.{Row}
use Rattle.bom_reader.proofs.FirstFault.{each-sound}
use Rattle.bom_reader.proofs.NamePlaces.{has_name-added, has_name-stays_all, name-at_place, place-stays_all}
use Rattle.bom_reader.proofs.OrderLaws.{some-value, value-there}
use Rattle.bom_reader.proofs.Places.{place_inside, position-inside}
use Rattle.tqd_instance.specs.declared.parts.PriceRow.{PriceRow}
use Rattle.offer_reader.specs.Laws.{AreIntervals, HoldsFrom, IsOfferRow, StatesPrice, goods_in}
use Rattle.offer_reader.specs.Offers.{Wanted, OffersData, amount_of, from_of, from_units, froms_of, good_of, no_offers, offer_fault_after, offers_of, part, price_row, supplier, with_offer}
use Rattle.offer_reader.specs.Steps.{HasOffers, ReadingData, stepped}
use Rattle.offer_reader.proofs.IntervalFacts.{all-numbers, distinct-numbers, has_number, no-more-among}
use Rattle.offer_reader.proofs.PriceFacts.{froms_few}
use Rattle.offer_reader.proofs.RowFacts.{fault_same, no_rows, offers_more}

-- the suppliers of goods, added to names
abbrev pub suppliers_with : Wanted → List (List ℕ) → List Row → List (List ℕ)
suppliers_with wanted names rows = with_names names (map supplier (goods_in wanted rows))

abbrev pub price_by : Wanted → List (List ℕ) → Row → PriceRow
price_by wanted suppliers row = price_row suppliers (unwrap_or (good_of wanted (part row)) 0) row

-- the offers with those of rows
abbrev pub offers_with : Wanted → OffersData → List Row → OffersData
offers_with wanted offers rows = record {
  sellers = with_names offers.sellers (map supplier rows);
  offered = with_names offers.offered (map part rows);
  suppliers = suppliers_with wanted offers.suppliers rows;
  prices = offers.prices ++ map (price_by wanted (suppliers_with wanted offers.suppliers rows)) (goods_in wanted rows);
}

fold-is : (wanted : Wanted) (offers : OffersData) (rows : List Row) → fold (with_offer wanted) offers rows ≡ offers_with wanted offers rows
fold-is wanted offers [] = rw append-nil refl
fold-is wanted offers (row ∷ rows) = go (good_of wanted (part row)) refl (λ next. fold-is wanted next rows) where
  go : (o : Option ℕ) → good_of wanted (part row) ≡ o → ((next : OffersData) → fold (with_offer wanted) next rows ≡ offers_with wanted next rows) → fold (with_offer wanted) (with_offer wanted offers row) rows ≡ offers_with wanted offers (row ∷ rows)
  go None is rest = rw is (rest (record offers { sellers = with_name offers.sellers (supplier row); offered = with_name offers.offered (part row) }))
  go (Some good) is rest =
      let first = with_name offers.suppliers (supplier row) in
      let next : OffersData = record { sellers = with_name offers.sellers (supplier row); offered = with_name offers.offered (part row); suppliers = first; prices = offers.prices ++ price_row first good row ∷ [] } in
      let all = suppliers_with wanted first rows in
      let later = map (price_by wanted all) (goods_in wanted rows) in
      let place : position_or_len (bytes_eq (supplier row)) all ≡ position_or_len (bytes_eq (supplier row)) first = place-stays_all first (supplier row) (map supplier (goods_in wanted rows)) (has_name-added offers.suppliers (supplier row)) in
      let prices : (offers.prices ++ price_row first good row ∷ []) ++ later ≡ offers.prices ++ price_by wanted all row ∷ later = append_assoc offers.prices (price_row first good row ∷ []) later ∙ rw (place, is) refl in
      let whole : OffersData → List PriceRow → OffersData = λ o list. record o { prices = list } in
      rw is (rest next ∙ ap (λ (list : List PriceRow). whole (offers_with wanted next rows) list) prices)

pub offers-are : (wanted : Wanted) (rows : List Row) → offers_of wanted rows ≡ offers_with wanted no_offers rows
offers-are wanted rows = fold-is wanted no_offers rows

-- the supplier of an offer of a good is among the suppliers
known-good : (wanted : Wanted) (names : List (List ℕ)) (rows : List Row) → All (λ row. is_some (good_of wanted (part row)) ≡ true → has_name (suppliers_with wanted names rows) (supplier row) ≡ true) rows
known-good wanted names [] i d inside good = absurd (omega arith)
known-good wanted names (row ∷ rows) zero d inside good =
    rw good (has_name-stays_all (with_name names (supplier row)) (supplier row) (map supplier (goods_in wanted rows)) (has_name-added names (supplier row)))
known-good wanted names (row ∷ rows) (suc i) d inside good = go (is_some (good_of wanted (part row))) refl (λ more. known-good wanted more rows i d (omega arith) good) where
  go : (b : Bool) → is_some (good_of wanted (part row)) ≡ b → ((more : List (List ℕ)) → has_name (suppliers_with wanted more rows) (supplier (get_or rows i d)) ≡ true) → has_name (suppliers_with wanted names (row ∷ rows)) (supplier (get_or rows i d)) ≡ true
  go true is rest = rw is (rest (with_name names (supplier row)))
  go false is rest = rw is (rest names)

-- a sound row of a good whose supplier is known
pub record IsGoodRow (wanted : Wanted) (suppliers : List (List ℕ)) (row : Row) : Type 0 where
  pub sound : IsOfferRow row
  pub good : is_some (good_of wanted (part row)) ≡ true
  pub known : has_name suppliers (supplier row) ≡ true

pub good-rows : (wanted : Wanted) (rows : List Row) → All IsOfferRow rows → All (IsGoodRow wanted (suppliers_with wanted [] rows)) (goods_in wanted rows)
good-rows wanted rows sound i d inside =
    let test : Row → Bool = λ row. is_some (good_of wanted (part row)) in
    let good = filter_passes test rows i d inside in
    record {
      sound = All-filter test IsOfferRow rows sound i d inside;
      good = good;
      known = All-filter test (λ row. is_some (good_of wanted (part row)) ≡ true → has_name (suppliers_with wanted [] rows) (supplier row) ≡ true) rows (known-good wanted [] rows) i d inside good;
    }

states-to : (wanted : Wanted) (suppliers : List (List ℕ)) (row : Row) → IsGoodRow wanted suppliers row → StatesPrice wanted suppliers row (price_by wanted suppliers row)
states-to wanted suppliers row is = record {
  supplier_is = position-inside (bytes_eq (supplier row)) suppliers (place_inside (bytes_eq (supplier row)) suppliers is.known);
  from_is = sym (value-there (from_of row) (some-value (from_of row) is.sound.from_there));
  good_is = sym (value-there (good_of wanted (part row)) (some-value (good_of wanted (part row)) is.good));
  price_is = sym (value-there (amount_of row) (some-value (amount_of row) is.sound.price_there));
}

pub prices-to : (wanted : Wanted) (suppliers : List (List ℕ)) (rows : List Row) → All (IsGoodRow wanted suppliers) rows → AllZip (StatesPrice wanted suppliers) rows (map (price_by wanted suppliers) rows)
prices-to wanted suppliers [] all = tt
prices-to wanted suppliers (row ∷ rows) all = (states-to wanted suppliers row (All-head (IsGoodRow wanted suppliers) row rows all), prices-to wanted suppliers rows (All-tail (IsGoodRow wanted suppliers) row rows all))

-- an offer of a good from this total, at the supplier with this number
abbrev holds_at : Wanted → List (List ℕ) → ℕ → ℕ → Row → Bool
holds_at wanted suppliers place from row = is_some (good_of wanted (part row)) && (eqb (position_or_len (bytes_eq (supplier row)) suppliers) place && eqb (from_units row) from)

numbers-are : (wanted : Wanted) (suppliers : List (List ℕ)) (rows : List Row) (place from : ℕ)
    → has_number (map (λ (r : PriceRow). r.from) (filter (λ r. eqb r.supplier place) (map (price_by wanted suppliers) (goods_in wanted rows)))) from ≡ list_any (holds_at wanted suppliers place from) rows
numbers-are wanted suppliers [] place from = refl
numbers-are wanted suppliers (row ∷ rows) place from = go (is_some (good_of wanted (part row))) (eqb (position_or_len (bytes_eq (supplier row)) suppliers) place) refl refl (numbers-are wanted suppliers rows place from) where
  go : (good here : Bool) → is_some (good_of wanted (part row)) ≡ good → eqb (position_or_len (bytes_eq (supplier row)) suppliers) place ≡ here
      → has_number (map (λ (r : PriceRow). r.from) (filter (λ r. eqb r.supplier place) (map (price_by wanted suppliers) (goods_in wanted rows)))) from ≡ list_any (holds_at wanted suppliers place from) rows
      → has_number (map (λ (r : PriceRow). r.from) (filter (λ r. eqb r.supplier place) (map (price_by wanted suppliers) (goods_in wanted (row ∷ rows))))) from ≡ list_any (holds_at wanted suppliers place from) (row ∷ rows)
  go false here is at_place rest = rw is rest
  go true false is at_place rest = rw (is, at_place) rest
  go true true is at_place rest = rw (is, at_place, rest) refl

-- the totals in the prices of the supplier with a name
totals_at : Wanted → List Row → List ℕ → List ℕ
totals_at wanted rows name =
    let offers = offers_of wanted rows in
    map (λ (r : PriceRow). r.from) (filter (λ r. eqb r.supplier (position_or_len (bytes_eq name) offers.suppliers)) offers.prices)

-- and the different ones
abbrev pub intervals_of : Wanted → List Row → List ℕ → List ℕ
intervals_of wanted rows name = froms_of (offers_of wanted rows).prices (position_or_len (bytes_eq name) (offers_of wanted rows).suppliers)

has-interval : (wanted : Wanted) (rows : List Row) (name : List ℕ) (from : ℕ)
    → has_number (intervals_of wanted rows name) from ≡ list_any (holds_at wanted (suppliers_with wanted [] rows) (position_or_len (bytes_eq name) (suppliers_with wanted [] rows)) from) rows
has-interval wanted rows name from =
    let suppliers = suppliers_with wanted [] rows in
    let place = position_or_len (bytes_eq name) suppliers in
    let list = map (λ (r : PriceRow). r.from) (filter (λ r. eqb r.supplier place) (map (price_by wanted suppliers) (goods_in wanted rows))) in
    ap (λ (offers : OffersData). has_number (froms_of offers.prices (position_or_len (bytes_eq name) offers.suppliers)) from) (offers-are wanted rows)
    ∙ (all-numbers [] list from ∙ numbers-are wanted suppliers rows place from)

-- an offer at the place of a name is of that name
named-at : (names : List (List ℕ)) (a name : List ℕ) → has_name names a ≡ true → position_or_len (bytes_eq a) names ≡ position_or_len (bytes_eq name) names → a ≡ name
named-at names a name known same =
    let place = position_or_len (bytes_eq name) names in
    let inside : place < length names = rw same at (place_inside (bytes_eq a) names known) in
    let of_name : name ≡ get_or names place [] = (bytes_decides name (get_or names place [])).0 (passes_at_first (bytes_eq name) names [] inside) in
    name-at_place names a known ∙ (ap (λ n. get_or names n []) same ∙ sym of_name)

holds-to : (wanted : Wanted) (rows : List Row) (name : List ℕ) (from : ℕ) → All IsOfferRow rows → has_number (intervals_of wanted rows name) from ≡ true → Any (HoldsFrom wanted name from) rows
holds-to wanted rows name from sound there =
    let suppliers = suppliers_with wanted [] rows in
    let place = position_or_len (bytes_eq name) suppliers in
    let any = Any-from_list_any (holds_at wanted suppliers place from) rows (sym (has-interval wanted rows name from) ∙ there) in
    let row = any.1 in
    let p = and_parts (is_some (good_of wanted (part row))) (eqb (position_or_len (bytes_eq (supplier row)) suppliers) place && eqb (from_units row) from) any.4 in
    let q = and_parts (eqb (position_or_len (bytes_eq (supplier row)) suppliers) place) (eqb (from_units row) from) p.1 in
    let of_row : IsOfferRow row = rw any.3 at (sound any.0 row any.2) in
    let known : is_some (good_of wanted (part row)) ≡ true → has_name suppliers (supplier row) ≡ true = rw any.3 at (known-good wanted [] rows any.0 row any.2) in (
      any.0,
      row,
      any.2,
      any.3,
      record {
        of_good = p.0;
        supplier_is = named-at suppliers (supplier row) name (known p.0) (eqb-true (position_or_len (bytes_eq (supplier row)) suppliers) place q.0);
        from_is = sym (value-there (from_of row) (some-value (from_of row) of_row.from_there)) ∙ ap (λ n. Some n) (eqb-true (from_units row) from q.1);
      },
    )

holds-from : (wanted : Wanted) (rows : List Row) (name : List ℕ) (from : ℕ) → Any (HoldsFrom wanted name from) rows → has_number (intervals_of wanted rows name) from ≡ true
holds-from wanted rows name from any =
    let suppliers = suppliers_with wanted [] rows in
    let place = position_or_len (bytes_eq name) suppliers in
    let row = any.1 in
    let here = eq-eqb (position_or_len (bytes_eq (supplier row)) suppliers) place (ap (λ (text : List ℕ). position_or_len (bytes_eq text) suppliers) any.4.supplier_is) in
    let total : eqb (from_units row) from ≡ true = rw any.4.from_is (eq-eqb from from refl) in
    let passes = and_from (is_some (good_of wanted (part row))) (eqb (position_or_len (bytes_eq (supplier row)) suppliers) place && eqb (from_units row) from) any.4.of_good
    (and_from (eqb (position_or_len (bytes_eq (supplier row)) suppliers) place) (eqb (from_units row) from) here total) in
    has-interval wanted rows name from ∙ list_any_at (holds_at wanted suppliers place from) rows any.0 row any.2 (rw any.3 passes)

pub intervals-are : (wanted : Wanted) (rows : List Row) (name : List ℕ) → All IsOfferRow rows → AreIntervals wanted rows name (intervals_of wanted rows name)
unfolding totals_at
intervals-are wanted rows name sound = record {
  distinct = distinct-numbers [] (totals_at wanted rows name) (λ i j d ordered inside. absurd (omega arith));
  each = λ i d inside. holds-to wanted rows name (get_or (intervals_of wanted rows name) i d) sound (list_any_at (λ m. eqb m (get_or (intervals_of wanted rows name) i d)) (intervals_of wanted rows name) i d inside (eq-eqb (get_or (intervals_of wanted rows name) i d) (get_or (intervals_of wanted rows name) i d) refl));
}

pub no-more-intervals : (wanted : Wanted) (rows : List Row) (name froms : List ℕ) → AreIntervals wanted rows name froms → length froms ≤ length (intervals_of wanted rows name)
no-more-intervals wanted rows name froms are = no-more-among froms (intervals_of wanted rows name) are.distinct (λ q there.
    let any = Any-from_list_any (λ m. eqb m q) froms there in
    let is : any.1 ≡ q = eqb-true any.1 q any.4 in
    let holds : Any (HoldsFrom wanted name any.1) rows = rw any.3 at (are.each any.0 any.1 any.2) in
    holds-from wanted rows name q (subst (λ n. Any (HoldsFrom wanted name n) rows) is holds))

-- sound rows can be read
reading-of : (wanted : Wanted) (rows : List Row) → first_fault (offer_fault_after wanted) [] rows ≡ None → (i : ℕ) → i ≤ length rows → (reading : ReadingData) × HasOffers wanted (take i rows) reading
reading-of wanted rows none zero small = (record { sellers = []; offered = []; goods = record { suppliers = []; froms = []; rows = [] }; keys = [] }, no_rows wanted)
reading-of wanted rows none (suc i) small =
    let row = get_or rows i [] in
    let before = reading-of wanted rows none i (omega arith) in
    let fine = fault_same wanted (take i rows) row before.0 before.1 ∙ each-sound (offer_fault_after wanted) [] rows none i [] (omega arith) in
    let after = offers_more wanted (take i rows) row before.0 before.1 fine in
    let plus : i + 1 ≡ suc i = omega arith in
    let more : take i rows ++ row ∷ [] ≡ take (suc i) rows = sym (take_more rows i [] (omega arith)) ∙ ap (λ n. take n rows) plus in
    (stepped wanted before.0 row, subst (λ (some : List Row). HasOffers wanted some (stepped wanted before.0 row)) more after)

-- and have few suppliers and few intervals
pub record AreFew (wanted : Wanted) (rows : List Row) : Type 0 where
  pub suppliers : length (offers_of wanted rows).suppliers ≤ SUPPLIERS_MAX
  pub intervals : (name : List ℕ) → length (intervals_of wanted rows name) ≤ INTERVALS_MAX

pub sound-few : (wanted : Wanted) (rows : List Row) → first_fault (offer_fault_after wanted) [] rows ≡ None → AreFew wanted rows
sound-few wanted rows none =
    let read = reading-of wanted rows none (length rows) (omega arith) in
    let has : HasOffers wanted rows read.0 = subst (λ (some : List Row). HasOffers wanted some read.0) (take_all (length rows) rows (omega arith)) read.1 in
    record {
      suppliers = subst (λ (offers : OffersData). length offers.suppliers ≤ SUPPLIERS_MAX) has.offers has.goods.few_suppliers;
      intervals = λ name. subst (λ (offers : OffersData). length (froms_of offers.prices (position_or_len (bytes_eq name) offers.suppliers)) ≤ INTERVALS_MAX) has.offers (froms_few read.0.goods has.goods (position_or_len (bytes_eq name) read.0.goods.suppliers));
    }
