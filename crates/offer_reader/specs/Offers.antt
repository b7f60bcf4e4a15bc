-- What the rows of a file of offers say: who sells, which parts are offered, and the prices of goods; or the first fault.
use Rattle.std.specs.Prelude.{ℕ, ◌==◌, Bool, not, ◌&&◌, List, [], ◌∷◌, ◌++◌, length, map, filter, fold, position, Option, None, Some, is_none, unwrap_or, option_and_then, Result, if◌then◌else◌, nat_lt, codes}
use Rattle.std.specs.List.{list_any, position_or_len}
use Rattle.std.specs.Result.{result_map_both}
use Rattle.std.specs.Str.{bytes_eq}
use Rattle.tqd_base.specs.declared.limits.TheConstants.{QTY_MAX, SUPPLIERS_MAX, INTERVALS_MAX}
use Rattle.money.specs.Number.{qty_of}
use Rattle.money.specs.Price.{price_of}
use Rattle.csv_rows.specs.Rows.{records_of, table_of}
use Rattle.tqd_instance.specs.declared.parts.PriceRow.{PriceRow}
use Rattle.bom_reader.specs.Names.{is_name, number_of, with_name}
use Rattle.bom_reader.specs.Faults.{fault_if, first_fault, unless}
use Rattle.bom_reader.specs.Rows.{Row, field, row_number}
use Rattle.offer_reader.specs.declared.fault.OfferFault.{OfferFault}
use Rattle.offer_reader.specs.declared.fault.OfferFault.TheVariants.{Rows, Name, From, Price, Twice, TooManySuppliers, TooManyIntervals}

-- what offers and terms are read against: the names of orders and bill, and the goods by the numbers of their names
pub record Wanted : Type 0 where
  pub names : List (List ℕ)
  pub goods : List ℕ

-- the number of the good with this name, where it is one
abbrev pub good_of : Wanted → List ℕ → Option ℕ
good_of wanted name = option_and_then (λ number. position (λ good. good == number) wanted.goods) (number_of wanted.names name)

abbrev pub supplier : Row → List ℕ
supplier = field 0

abbrev pub part : Row → List ℕ
part = field 2

-- the least total at which the price holds: 1 to 100,000,000 units
abbrev pub from_of : Row → Option ℕ
from_of row = qty_of 1 QTY_MAX (field 1 row)

abbrev pub from_units : Row → ℕ
from_units row = unwrap_or (from_of row) 0

-- the price of a unit, in millionths of the currency
abbrev pub amount_of : Row → Option ℕ
amount_of row = price_of (field 3 row)

-- what rows say: everyone who sells and every part that is offered; and of the offers of goods the suppliers, numbered by
-- first appearance, and the prices
pub record OffersData : Type 0 where
  pub sellers : List (List ℕ)
  pub offered : List (List ℕ)
  pub suppliers : List (List ℕ)
  pub prices : List PriceRow

abbrev pub no_offers : OffersData
no_offers = record { sellers = []; offered = []; suppliers = []; prices = [] }

-- the price of a good that a row states, where its supplier is among these
abbrev pub price_row : List (List ℕ) → ℕ → Row → PriceRow
price_row suppliers good row = record {
  supplier = position_or_len (bytes_eq (supplier row)) suppliers;
  from = from_units row;
  good = good;
  price = unwrap_or (amount_of row) 0;
}

-- the offers with the price of a good, or as they are where the part is no good
abbrev pub with_price : Option ℕ → Row → OffersData → OffersData
with_price None row offers = offers
with_price (Some good) row offers =
    let suppliers = with_name offers.suppliers (supplier row) in
    record offers { suppliers = suppliers; prices = offers.prices ++ price_row suppliers good row ∷ [] }

-- the offers with what one more row says
abbrev pub with_offer : Wanted → OffersData → Row → OffersData
with_offer wanted offers row = with_price (good_of wanted (part row)) row (record offers {
  sellers = with_name offers.sellers (supplier row);
  offered = with_name offers.offered (part row);
})

-- what the rows say, one after the other
abbrev pub offers_of : Wanted → List Row → OffersData
offers_of wanted rows = fold (with_offer wanted) no_offers rows

-- the numbers with one more, which goes last where it is new
abbrev pub with_number : List ℕ → ℕ → List ℕ
with_number numbers n = if list_any (λ m. m == n) numbers then numbers else numbers ++ n ∷ []

-- the different numbers at which prices of a supplier begin
abbrev pub froms_of : List PriceRow → ℕ → List ℕ
froms_of prices i = fold with_number [] (map (λ r. r.from) (filter (λ r. r.supplier == i) prices))

-- two rows of one supplier, beginning and part
abbrev pub same_offer : Row → Row → Bool
same_offer a b = bytes_eq (supplier a) (supplier b) && from_units a == from_units b && bytes_eq (part a) (part b)

-- how many intervals the supplier of a row has among these offers
abbrev pub intervals_at : OffersData → Row → ℕ
intervals_at offers row = length (froms_of offers.prices (position_or_len (bytes_eq (supplier row)) offers.suppliers))

-- the fault of the row with this number, where these rows are before it, and the offers are those of them and of this row
abbrev pub offer_fault : OffersData → List Row → ℕ → Row → Option OfferFault
offer_fault offers earlier at row =
    fault_if (not (is_name (supplier row) && is_name (part row))) (Name at)
    (fault_if (is_none (from_of row)) (From at)
    (fault_if (is_none (amount_of row)) (Price at)
    (fault_if (list_any (same_offer row) earlier) (Twice at)
    (fault_if (nat_lt SUPPLIERS_MAX (length offers.suppliers)) (TooManySuppliers at)
    (fault_if (nat_lt INTERVALS_MAX (intervals_at offers row)) (TooManyIntervals at) None)))))

abbrev pub offer_fault_after : Wanted → List Row → Row → Option OfferFault
offer_fault_after wanted earlier row = offer_fault (offers_of wanted (earlier ++ row ∷ [])) earlier (row_number earlier) row

-- the offers that the rows after the header state, or the fault of the first row with one
abbrev pub checked_offers : Wanted → List Row → Result OffersData OfferFault
checked_offers wanted rows = unless (first_fault (offer_fault_after wanted) [] rows) (offers_of wanted rows)

abbrev pub offer_columns : List (List ℕ)
offer_columns = codes "supplier" ∷ codes "from" ∷ codes "part" ∷ codes "price" ∷ []

-- the rows of a file of offers: `supplier,from,part,price`
abbrev pub offer_rows : List ℕ → Result (List Row) OfferFault
offer_rows bytes = result_map_both (λ rows. rows) Rows (table_of offer_columns (records_of bytes))
