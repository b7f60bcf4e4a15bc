-- What one row makes of a reading of offers.
use Rattle.std.specs.Prelude.{ℕ, ◌≡◌, ◌==◌, Bool, true, ◌&&◌, List, [], map, All, Option, None, Some, Result, Ok, Err}
use Rattle.std.specs.BTreeSet.{insert_key}
use Rattle.std.specs.List.{list_any, position_or_len}
use Rattle.std.specs.Option.{option_or}
use Rattle.std.specs.Ordering.{nat_cmp, ordering_then}
use Rattle.std.specs.declared.cmp.Ordering.{Ordering}
use Rattle.std.specs.Str.{bytes_eq}
use Rattle.tqd_base.specs.declared.memory.Stop.{Stop}
use Rattle.tqd_base.specs.declared.memory.Stop.TheVariants.{Refused, Memory}
use Rattle.bom_reader.specs.Names.{has_name, with_name}
use Rattle.bom_reader.specs.Faults.{fault_if, first_fault}
use Rattle.bom_reader.specs.Rows.{Row}
use Rattle.offer_reader.specs.Offers.{Wanted, OffersData, good_of, offers_of, offer_fault_after, from_units, supplier, part}
use Rattle.offer_reader.specs.Reading.{PricesData, ArePrices, fields_fault, key_of, many_fault, numbers_of, priced}
use Rattle.offer_reader.specs.declared.fault.OfferFault.{OfferFault}
use Rattle.offer_reader.specs.declared.fault.OfferFault.TheVariants.{Twice}

-- everyone who sells, every part that is offered, the prices of goods, and the keys of the rows in the order of keys
pub record ReadingData : Type 0 where
  pub sellers : List (List ℕ)
  pub offered : List (List ℕ)
  pub goods : PricesData
  pub keys : List (ℕ × ℕ × ℕ)

abbrev pub offers_read : ReadingData → OffersData
offers_read reading = record { sellers = reading.sellers; offered = reading.offered; suppliers = reading.goods.suppliers; prices = reading.goods.rows }

abbrev pub same_key : ℕ × ℕ × ℕ → ℕ × ℕ × ℕ → Bool
same_key a b = (a.0 == b.0) && (a.1 == b.1) && (a.2 == b.2)

-- the reading with the names of a row
abbrev pub with_names_of : ReadingData → Row → ReadingData
with_names_of reading row = record reading { sellers = with_name reading.sellers (supplier row); offered = with_name reading.offered (part row) }

-- the prices with that of a row, where its part is a good
abbrev pub goods_with : PricesData → Row → Option ℕ → PricesData
goods_with goods row None = goods
goods_with goods row (Some good) = priced goods (supplier row) good (numbers_of row)

-- the key of a row whose price begins at this number
abbrev pub key_in : ReadingData → Row → ℕ → ℕ × ℕ × ℕ
key_in reading row from = (position_or_len (bytes_eq (supplier row)) reading.sellers, from, position_or_len (bytes_eq (part row)) reading.offered)

abbrev pub row_key : ReadingData → Row → ℕ × ℕ × ℕ
row_key reading row = key_in (with_names_of reading row) row (from_units row)

-- the order of keys
abbrev pub key_cmp : ℕ × ℕ × ℕ → ℕ × ℕ × ℕ → Ordering
key_cmp a b = ordering_then (ordering_then (nat_cmp a.0 b.0) (nat_cmp a.1 b.1)) (nat_cmp a.2 b.2)

-- the keys with one more, which goes to its place where it is new
abbrev pub with_key : List (ℕ × ℕ × ℕ) → ℕ × ℕ × ℕ → List (ℕ × ℕ × ℕ)
with_key keys key = insert_key key_cmp keys key

-- the reading after one more row
abbrev pub stepped : Wanted → ReadingData → Row → ReadingData
stepped wanted reading row = record {
  sellers = with_name reading.sellers (supplier row);
  offered = with_name reading.offered (part row);
  goods = goods_with reading.goods row (good_of wanted (part row));
  keys = with_key reading.keys (row_key reading row);
}

-- the fault of a price, where the part of the row is a good
abbrev pub good_fault : PricesData → Row → Option ℕ → ℕ → Option OfferFault
good_fault goods row None at = None
good_fault goods row (Some good) at = many_fault (priced goods (supplier row) good (numbers_of row)) (supplier row) at

-- the fault of the row with this number after what was read
abbrev pub step_fault : Wanted → ReadingData → ℕ → Row → Option OfferFault
step_fault wanted reading at row = option_or (fields_fault at row)
    (fault_if (list_any (same_key (row_key reading row)) reading.keys) (Twice at) (good_fault reading.goods row (good_of wanted (part row)) at))

-- the supplier and the part of a row are among those that were read
pub record IsRead (offers : OffersData) (row : Row) : Type 0 where
  pub seller : has_name offers.sellers (supplier row) ≡ true
  pub part : has_name offers.offered (part row) ≡ true

-- the rows were read without a fault
pub record HasOffers (wanted : Wanted) (rows : List Row) (reading : ReadingData) : Type 0 where
  pub offers : offers_read reading ≡ offers_of wanted rows
  pub keys : (key : ℕ × ℕ × ℕ) → list_any (same_key key) reading.keys ≡ list_any (same_key key) (map (key_of (offers_read reading)) rows)
  pub names : All (IsRead (offers_read reading)) rows
  pub goods : ArePrices reading.goods
  pub sound : first_fault (offer_fault_after wanted) [] rows ≡ None

-- what reading all rows gives: a reading without a fault, or the first fault
abbrev pub ReadsAll : Wanted → List Row → Result ReadingData (Stop OfferFault) → Type 0
ReadsAll wanted rows (Ok reading) = HasOffers wanted rows reading
ReadsAll wanted rows (Err (Refused fault)) = first_fault (offer_fault_after wanted) [] rows ≡ Some fault
ReadsAll wanted rows (Err Memory) = Unit {0}
