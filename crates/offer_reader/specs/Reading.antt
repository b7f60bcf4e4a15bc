-- What a reading of offers keeps, row by row.
use Rattle.std.specs.Prelude.{ℕ, ◌≡◌, ◌<◌, ◌≤◌, not, ◌&&◌, List, [], ◌∷◌, ◌++◌, length, All, slice_index_or, slice_set, Option, None, is_none, unwrap_or, if◌then◌else◌, nat_lt}
use Rattle.std.specs.List.{position_or_len}
use Rattle.std.specs.Str.{bytes_eq}
use Rattle.tqd_base.specs.declared.limits.TheConstants.{SUPPLIERS_MAX, INTERVALS_MAX}
use Rattle.tqd_instance.specs.declared.parts.PriceRow.{PriceRow}
use Rattle.bom_reader.specs.Names.{is_name, with_name}
use Rattle.bom_reader.specs.Faults.{fault_if}
use Rattle.bom_reader.specs.Rows.{Row}
use Rattle.offer_reader.specs.Offers.{OffersData, froms_of, from_of, from_units, amount_of, supplier, part, with_number}
use Rattle.offer_reader.specs.declared.fault.OfferFault.{OfferFault}
use Rattle.offer_reader.specs.declared.fault.OfferFault.TheVariants.{Name, From, Price, TooManySuppliers, TooManyIntervals}
use Rattle.offer_reader.specs.declared.reading.OfferTexts.{OfferTexts}
use Rattle.offer_reader.specs.declared.reading.OfferNumbers.{OfferNumbers}

-- the texts as a row
abbrev pub row_of : OfferTexts → Row
row_of texts = texts.supplier.now ∷ texts.from.now ∷ texts.part.now ∷ texts.price.now ∷ []

-- the tests of a row that need no other row
abbrev pub fields_fault : ℕ → Row → Option OfferFault
fields_fault at row =
    fault_if (not (is_name (supplier row) && is_name (part row))) (Name at)
    (fault_if (is_none (from_of row)) (From at)
    (fault_if (is_none (amount_of row)) (Price at) None))

abbrev pub numbers_of : Row → OfferNumbers
numbers_of row = record { from = from_units row; price = unwrap_or (amount_of row) 0 }

-- lists of numbers, one for each supplier, with one number more at a place, which may be the one behind the last
abbrev pub noted : List (List ℕ) → ℕ → ℕ → List (List ℕ)
noted froms place from = if nat_lt place (length froms) then slice_set froms place (with_number (slice_index_or froms place []) from)
    else froms ++ with_number [] from ∷ []

-- the suppliers of goods, the totals from which their prices hold, supplier by supplier, and the prices
pub record PricesData : Type 0 where
  pub suppliers : List (List ℕ)
  pub froms : List (List ℕ)
  pub rows : List PriceRow

-- the prices with one more, of a good at a supplier
abbrev pub priced : PricesData → List ℕ → ℕ → OfferNumbers → PricesData
priced prices name good numbers =
    let suppliers = with_name prices.suppliers name in
    let i = position_or_len (bytes_eq name) suppliers in
    record {
      suppliers = suppliers;
      froms = noted prices.froms i numbers.from;
      rows = prices.rows ++ record { supplier = i; from = numbers.from; good = good; price = numbers.price } ∷ [];
    }

-- the fault of the row with this number where these are the prices with it, and it is of this supplier
abbrev pub many_fault : PricesData → List ℕ → ℕ → Option OfferFault
many_fault prices name at =
    fault_if (nat_lt SUPPLIERS_MAX (length prices.suppliers)) (TooManySuppliers at)
    (fault_if (nat_lt INTERVALS_MAX (length (slice_index_or prices.froms (position_or_len (bytes_eq name) prices.suppliers) []))) (TooManyIntervals at) None)

-- the totals are those of the prices, and few, and each price is of a supplier
pub record ArePrices (prices : PricesData) : Type 0 where
  pub as_many : length prices.froms ≡ length prices.suppliers
  pub each : (i : ℕ) → i < length prices.froms → slice_index_or prices.froms i [] ≡ froms_of prices.rows i
  pub few : (i : ℕ) → i < length prices.froms → length (slice_index_or prices.froms i []) ≤ INTERVALS_MAX
  pub few_suppliers : length prices.suppliers ≤ SUPPLIERS_MAX
  pub of_suppliers : All (λ r. r.supplier < length prices.suppliers) prices.rows

-- the key of a row: the places of its supplier and its part, and where its price begins
abbrev pub key_of : OffersData → Row → ℕ × ℕ × ℕ
key_of offers row = (position_or_len (bytes_eq (supplier row)) offers.sellers, from_units row, position_or_len (bytes_eq (part row)) offers.offered)
