-- One row more of offers.
use Rattle.std.proofs.Common.{ℕ, ◌≡◌, ◌<◌, Bool, true, false, not, ltb, ◌&&◌, ◌||◌, List, [], ◌∷◌, ◌++◌, length, map, get_or, Option, None, Some, refl, sym, ap, ◌∙◌, arith}
use Rattle.std.proofs.lemmas.Bool.{le-ltb, ltb-false}
use Rattle.std.proofs.lemmas.List.{map-append}
use Rattle.std.proofs.lemmas.List.Elements.{All-nil, All-cons, All-head, All-tail, All-append, All-weaker}
use Rattle.std.proofs.lemmas.List.Folds.{list_any-append}
use Rattle.std.proofs.lemmas.List.Sums.{fold-append}
use Rattle.std.specs.Prelude.{All, is_none}
use Rattle.std.specs.List.{list_any, position_or_len}
use Rattle.std.specs.Option.{option_or}
use Rattle.std.specs.Str.{bytes_eq}
use Rattle.tqd_base.specs.declared.limits.TheConstants.{SUPPLIERS_MAX, INTERVALS_MAX}
use Rattle.bom_reader.specs.Names.{is_name, with_name}
use Rattle.bom_reader.specs.Faults.{fault_if}
use Rattle.bom_reader.specs.Rows.{Row, row_number}
use Rattle.bom_reader.proofs.NamePlaces.{has_name-added, has_name-stays, place-stays, same-places}
use Rattle.bom_reader.proofs.FirstFault.{first_fault-append, or-none, fault_if-none}
use Rattle.tqd_instance.specs.declared.parts.PriceRow.{PriceRow}
use Rattle.offer_reader.proofs.KeyFacts.{key_added}
use Rattle.offer_reader.proofs.PriceFacts.{froms_few, each_more, place_more, prices_more}
use Rattle.offer_reader.specs.Offers.{Wanted, OffersData, good_of, offers_of, with_offer, with_price, no_offers, same_offer, supplier, part, from_of, amount_of, froms_of, offer_fault, offer_fault_after, intervals_at}
use Rattle.offer_reader.specs.Reading.{PricesData, ArePrices, fields_fault, key_of, many_fault, numbers_of, priced}
use Rattle.offer_reader.specs.Steps.{ReadingData, IsRead, HasOffers, offers_read, goods_with, good_fault, row_key, same_key, step_fault, stepped, with_key, with_names_of}
use Rattle.offer_reader.specs.declared.fault.OfferFault.{OfferFault}
use Rattle.offer_reader.specs.declared.fault.OfferFault.TheVariants.{Name, From, Price, Twice, TooManySuppliers, TooManyIntervals}

-- the offers with one row more are those of the reading after it
step_by : (reading : ReadingData) (row : Row) (o : Option ℕ)
    → offers_read (record { sellers = with_name reading.sellers (supplier row); offered = with_name reading.offered (part row); goods = goods_with reading.goods row o; keys = with_key reading.keys (row_key reading row) })
    ≡ with_price o row (record (offers_read reading) { sellers = with_name reading.sellers (supplier row); offered = with_name reading.offered (part row) })
step_by reading row None = refl
step_by reading row (Some good) = refl

pub step_offers : (wanted : Wanted) (rows : List Row) (row : Row) (reading : ReadingData) → offers_read reading ≡ offers_of wanted rows
    → offers_read (stepped wanted reading row) ≡ offers_of wanted (rows ++ row ∷ [])
step_offers wanted rows row reading is =
    step_by reading row (good_of wanted (part row)) ∙ ap (λ (offers : OffersData). with_offer wanted offers row) is ∙ sym (fold-append (with_offer wanted) no_offers rows (row ∷ []))

-- the names of a row, once they are added
read_own : (reading : ReadingData) (row : Row) → IsRead (offers_read (with_names_of reading row)) row
read_own reading row = record { seller = has_name-added reading.sellers (supplier row); part = has_name-added reading.offered (part row) }

read_stays : (reading : ReadingData) (row other : Row) → IsRead (offers_read reading) other → IsRead (offers_read (with_names_of reading row)) other
read_stays reading row other known = record { seller = has_name-stays reading.sellers (supplier other) (supplier row) known.seller; part = has_name-stays reading.offered (part other) (part row) known.part }

-- keys stay where names are added, and are the same where the offers are
key_stays : (reading : ReadingData) (row other : Row) → IsRead (offers_read reading) other → key_of (offers_read (with_names_of reading row)) other ≡ key_of (offers_read reading) other
key_stays reading row other known = rw (place-stays reading.sellers (supplier other) (supplier row) known.seller, place-stays reading.offered (part other) (part row) known.part) refl

keys_stay : (reading : ReadingData) (row : Row) (rows : List Row) → All (IsRead (offers_read reading)) rows
    → map (key_of (offers_read (with_names_of reading row))) rows ≡ map (key_of (offers_read reading)) rows
keys_stay reading row [] known = refl
keys_stay reading row (other ∷ rows) known =
    rw (key_stays reading row other (All-head (IsRead (offers_read reading)) other rows known), keys_stay reading row rows (All-tail (IsRead (offers_read reading)) other rows known)) refl

repeats_are : (offers : OffersData) (row : Row) (rows : List Row) → IsRead offers row → All (IsRead offers) rows
    → list_any (same_key (key_of offers row)) (map (key_of offers) rows) ≡ list_any (same_offer row) rows
repeats_are offers row [] own known = refl
repeats_are offers row (other ∷ rows) own known =
    let first = All-head (IsRead offers) other rows known in
    rw (
      same-places offers.sellers (supplier row) (supplier other) own.seller first.seller,
      same-places offers.offered (part row) (part other) own.part first.part,
      repeats_are offers row rows own (All-tail (IsRead offers) other rows known),
    ) refl

-- the tests of the fields come first
first_three : (a b c : Bool) (x y z : OfferFault) (last : Option OfferFault) → fault_if a x (fault_if b y (fault_if c z last)) ≡ option_or (fault_if a x (fault_if b y (fault_if c z None))) last
first_three true b c x y z last = refl
first_three false true c x y z last = refl
first_three false false true x y z last = refl
first_three false false false x y z last = refl

-- a row whose part is no good has no fault of suppliers and totals
none_many : (offers : OffersData) (reading : ReadingData) (row : Row) (at : ℕ) → ArePrices reading.goods → offers.suppliers ≡ reading.goods.suppliers → offers.prices ≡ reading.goods.rows
    → fault_if (ltb SUPPLIERS_MAX (length offers.suppliers)) (TooManySuppliers at) (fault_if (ltb INTERVALS_MAX (intervals_at offers row)) (TooManyIntervals at) None) ≡ None
none_many offers reading row at are suppliers prices =
    let place = position_or_len (bytes_eq (supplier row)) reading.goods.suppliers in
    rw (suppliers, prices, le-ltb SUPPLIERS_MAX (length reading.goods.suppliers) are.few_suppliers, le-ltb INTERVALS_MAX (length (froms_of reading.goods.rows place)) (froms_few reading.goods are place)) refl

-- and one whose part is a good has that of its price
good_many : (prices : PricesData) (row : Row) (good at : ℕ) (offers : OffersData) → ArePrices prices
    → offers.suppliers ≡ (priced prices (supplier row) good (numbers_of row)).suppliers → offers.prices ≡ (priced prices (supplier row) good (numbers_of row)).rows
    → fault_if (ltb SUPPLIERS_MAX (length offers.suppliers)) (TooManySuppliers at) (fault_if (ltb INTERVALS_MAX (intervals_at offers row)) (TooManyIntervals at) None)
    ≡ many_fault (priced prices (supplier row) good (numbers_of row)) (supplier row) at
good_many prices row good at offers are suppliers rows =
    let more = priced prices (supplier row) good (numbers_of row) in
    let place = position_or_len (bytes_eq (supplier row)) more.suppliers in
    let faults : List ℕ → Option OfferFault = λ list. fault_if (ltb SUPPLIERS_MAX (length more.suppliers)) (TooManySuppliers at) (fault_if (ltb INTERVALS_MAX (length list)) (TooManyIntervals at) None) in
    let by_suppliers : fault_if (ltb SUPPLIERS_MAX (length offers.suppliers)) (TooManySuppliers at) (fault_if (ltb INTERVALS_MAX (intervals_at offers row)) (TooManyIntervals at) None) ≡ faults (froms_of more.rows place)
    = cong2 suppliers rows in
    by_suppliers ∙ ap faults (sym (each_more prices (supplier row) good (numbers_of row) are place (place_more prices (supplier row) good (numbers_of row) are))) where
      cong2 : {S T : List (List ℕ)} {p q : List PriceRow} → S ≡ T → p ≡ q
          → fault_if (ltb SUPPLIERS_MAX (length S)) (TooManySuppliers at) (fault_if (ltb INTERVALS_MAX (length (froms_of p (position_or_len (bytes_eq (supplier row)) S)))) (TooManyIntervals at) None)
          ≡ fault_if (ltb SUPPLIERS_MAX (length T)) (TooManySuppliers at) (fault_if (ltb INTERVALS_MAX (length (froms_of q (position_or_len (bytes_eq (supplier row)) T)))) (TooManyIntervals at) None)
      cong2 e f = λ i. fault_if (ltb SUPPLIERS_MAX (length (e i))) (TooManySuppliers at) (fault_if (ltb INTERVALS_MAX (length (froms_of (f i) (position_or_len (bytes_eq (supplier row)) (e i))))) (TooManyIntervals at) None)

-- the key of a row repeats one exactly where the offer does
row_repeats_are : (wanted : Wanted) (rows : List Row) (row : Row) (reading : ReadingData) → HasOffers wanted rows reading
    → list_any (same_key (row_key reading row)) reading.keys ≡ list_any (same_offer row) rows
row_repeats_are wanted rows row reading has =
    let known = All-weaker (IsRead (offers_read reading)) (IsRead (offers_read (with_names_of reading row))) (λ other there. read_stays reading row other there) rows has.names in
    has.keys (row_key reading row) ∙ ap (λ keys. list_any (same_key (row_key reading row)) keys) (sym (keys_stay reading row rows has.names))
    ∙ repeats_are (offers_read (with_names_of reading row)) row rows (read_own reading row) known

-- the reading after a row whose part is the good of this number, if any
reading_with : ReadingData → Row → Option ℕ → ReadingData
reading_with reading row o = record { sellers = with_name reading.sellers (supplier row); offered = with_name reading.offered (part row); goods = goods_with reading.goods row o; keys = with_key reading.keys (row_key reading row) }

tail_same : (reading : ReadingData) (row : Row) (at : ℕ) (o : Option ℕ) → ArePrices reading.goods
    → fault_if (ltb SUPPLIERS_MAX (length (offers_read (reading_with reading row o)).suppliers)) (TooManySuppliers at) (fault_if (ltb INTERVALS_MAX (intervals_at (offers_read (reading_with reading row o)) row)) (TooManyIntervals at) None)
    ≡ good_fault reading.goods row o at
unfolding reading_with
tail_same reading row at None are = none_many (offers_read (reading_with reading row None)) reading row at are refl refl
tail_same reading row at (Some good) are = good_many reading.goods row good at (offers_read (reading_with reading row (Some good))) are refl refl

-- the fault after what was read is that of the row
pub fault_same : (wanted : Wanted) (rows : List Row) (row : Row) (reading : ReadingData) → HasOffers wanted rows reading
    → step_fault wanted reading (row_number rows) row ≡ offer_fault_after wanted rows row
unfolding reading_with
fault_same wanted rows row reading has =
    let at = row_number rows in
    let o = good_of wanted (part row) in
    let tail = fault_if (ltb SUPPLIERS_MAX (length (offers_read (stepped wanted reading row)).suppliers)) (TooManySuppliers at) (fault_if (ltb INTERVALS_MAX (intervals_at (offers_read (stepped wanted reading row)) row)) (TooManyIntervals at) None) in
    let tails : tail ≡ good_fault reading.goods row o at = tail_same reading row at o has.goods in
    let after = step_offers wanted rows row reading has.offers in
    ap (λ (b : Bool). option_or (fields_fault at row) (fault_if b (Twice at) (good_fault reading.goods row o at))) (row_repeats_are wanted rows row reading has)
    ∙ ap (λ (last : Option OfferFault). option_or (fields_fault at row) (fault_if (list_any (same_offer row) rows) (Twice at) last)) (sym tails)
    ∙ sym (first_three (not (is_name (supplier row) && is_name (part row))) (is_none (from_of row)) (is_none (amount_of row)) (Name at) (From at) (Price at) (fault_if (list_any (same_offer row) rows) (Twice at) tail))
    ∙ ap (λ (offers : OffersData). offer_fault offers rows at row) after

goods_more : (reading : ReadingData) (row : Row) (at : ℕ) (o : Option ℕ) → ArePrices reading.goods → good_fault reading.goods row o at ≡ None → ArePrices (goods_with reading.goods row o)
goods_more reading row at None are none = are
goods_more reading row at (Some good) are none =
    let more = priced reading.goods (supplier row) good (numbers_of row) in
    let a = fault_if-none (ltb SUPPLIERS_MAX (length more.suppliers)) (TooManySuppliers at) _ none in
    let b = fault_if-none (ltb INTERVALS_MAX (length (get_or more.froms (position_or_len (bytes_eq (supplier row)) more.suppliers) []))) (TooManyIntervals at) None a.1 in
    prices_more reading.goods (supplier row) good (numbers_of row) are (ltb-false SUPPLIERS_MAX (length more.suppliers) a.0) (ltb-false INTERVALS_MAX _ b.0)

read_after : (wanted : Wanted) (reading : ReadingData) (row other : Row) → IsRead (offers_read (with_names_of reading row)) other → IsRead (offers_read (stepped wanted reading row)) other
read_after wanted reading row other h = record { seller = h.seller; part = h.part }

keys_more : (wanted : Wanted) (rows : List Row) (row : Row) (reading : ReadingData) → HasOffers wanted rows reading → (key : ℕ × ℕ × ℕ)
    → list_any (same_key key) (with_key reading.keys (row_key reading row)) ≡ list_any (same_key key) (map (key_of (offers_read (with_names_of reading row))) (rows ++ row ∷ []))
keys_more wanted rows row reading has key =
    let last = row_key reading row in
    let keys = map (key_of (offers_read (with_names_of reading row))) rows in
    let before : list_any (same_key key) reading.keys ≡ list_any (same_key key) keys = has.keys key ∙ ap (λ list. list_any (same_key key) list) (sym (keys_stay reading row rows has.names)) in
    key_added reading.keys last key
    ∙ (list_any-append (same_key key) reading.keys (last ∷ []) ∙ (ap (λ (b : Bool). b || list_any (same_key key) (last ∷ [])) before ∙ sym (list_any-append (same_key key) keys (last ∷ []))))
    ∙ ap (λ list. list_any (same_key key) list) (sym (map-append (key_of (offers_read (with_names_of reading row))) rows (row ∷ [])))

-- and where there is none, the row was read
pub offers_more : (wanted : Wanted) (rows : List Row) (row : Row) (reading : ReadingData) → HasOffers wanted rows reading
    → step_fault wanted reading (row_number rows) row ≡ None → HasOffers wanted (rows ++ row ∷ []) (stepped wanted reading row)
offers_more wanted rows row reading has none =
    let at = row_number rows in
    let later = or-none (fields_fault at row) _ none in
    let good = fault_if-none (list_any (same_key (row_key reading row)) reading.keys) (Twice at) _ later.1 in
    let known = All-weaker (IsRead (offers_read reading)) (IsRead (offers_read (stepped wanted reading row))) (λ other there. read_after wanted reading row other (read_stays reading row other there)) rows has.names in
    record {
      offers = step_offers wanted rows row reading has.offers;
      keys = λ key. keys_more wanted rows row reading has key;
      names = All-append (IsRead (offers_read (stepped wanted reading row))) rows (row ∷ []) known (All-cons (IsRead (offers_read (stepped wanted reading row))) row [] (read_after wanted reading row row (read_own reading row)) (All-nil (IsRead (offers_read (stepped wanted reading row)))));
      goods = goods_more reading row at (good_of wanted (part row)) has.goods good.1;
      sound = first_fault-append (offer_fault_after wanted) [] rows (row ∷ []) has.sound ∙ ap (λ (o : Option OfferFault). option_or o None) (sym (fault_same wanted rows row reading has) ∙ none);
    }

-- before the first row
pub no_rows : (wanted : Wanted) → HasOffers wanted [] (record { sellers = []; offered = []; goods = record { suppliers = []; froms = []; rows = [] }; keys = [] })
no_rows wanted = record {
  offers = refl;
  keys = λ key. refl;
  names = All-nil (IsRead no_offers);
  goods = record { as_many = refl; each = λ i inside. absurd (omega arith); few = λ i inside. absurd (omega arith); few_suppliers = omega arith; of_suppliers = All-nil (λ (r : PriceRow). r.supplier < 0) };
  sound = refl;
}
