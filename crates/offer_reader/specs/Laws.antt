-- When offers come, and when each fault, in the words of the format. The contracts of `laws` state it.
use Rattle.std.specs.Prelude.{◌≡◌, ◌≢◌, ◌↔◌, ◌<◌, ◌≤◌, ℕ, List, [], ◌∷◌, ◌++◌, length, map, filter, All, Any, Contains, None, Some, is_some, IsSome, Ok, Err}
use Rattle.std.specs.List.{AllPairs, AllZip}
use Rattle.tqd_base.specs.declared.limits.TheConstants.{SUPPLIERS_MAX, INTERVALS_MAX}
use Rattle.csv_rows.specs.Rows.{records_of, table_of}
use Rattle.csv_rows.specs.declared.fault.RowFault.{RowFault}
use Rattle.tqd_instance.specs.declared.parts.PriceRow.{PriceRow}
use Rattle.bom_reader.specs.Laws.{IsName, StandsAfter}
use Rattle.bom_reader.specs.Names.{number_of, with_names}
use Rattle.bom_reader.specs.Rows.{Row}
use Rattle.offer_reader.specs.Book.{book_in}
use Rattle.offer_reader.specs.Offers.{Wanted, OffersData, good_of, supplier, part, from_of, from_units, amount_of, offer_columns, checked_offers}
use Rattle.offer_reader.specs.declared.fault.OfferFault.{OfferFault}
use Rattle.offer_reader.specs.declared.fault.OfferFault.TheVariants.{Rows, Name, From, Price, Twice, TooManySuppliers, TooManyIntervals}

-- the rows whose part is a good
abbrev pub goods_in : Wanted → List Row → List Row
goods_in wanted rows = filter (λ row. is_some (good_of wanted (part row))) rows

-- a row of offers has two names, a total and a price
pub record IsOfferRow (row : Row) : Type 0 where
  pub supplier_name : IsName (supplier row)
  pub part_name : IsName (part row)
  pub from_there : IsSome (from_of row)
  pub price_there : IsSome (amount_of row)

-- two rows of the same supplier, total and part
pub record SameOffer (a b : Row) : Type 0 where
  pub supplier_is : supplier a ≡ supplier b
  pub from_is : from_units a ≡ from_units b
  pub part_is : part a ≡ part b

-- the price of a good that a row states: supplier and good by their numbers
pub record StatesPrice (wanted : Wanted) (suppliers : List (List ℕ)) (row : Row) (price : PriceRow) : Type 0 where
  pub supplier_is : number_of suppliers (supplier row) ≡ Some price.supplier
  pub from_is : from_of row ≡ Some price.from
  pub good_is : good_of wanted (part row) ≡ Some price.good
  pub price_is : amount_of row ≡ Some price.price

-- from this total a price of a good holds at the supplier with this name
pub record HoldsFrom (wanted : Wanted) (name : List ℕ) (from : ℕ) (row : Row) : Type 0 where
  pub of_good : IsSome (good_of wanted (part row))
  pub supplier_is : supplier row ≡ name
  pub from_is : from_of row ≡ Some from

-- different totals, from each of which a price of a good holds at the supplier
pub record AreIntervals (wanted : Wanted) (rows : List Row) (name : List ℕ) (froms : List ℕ) : Type 0 where
  pub distinct : AllPairs (λ a b. a ≢ b) froms
  pub each : All (λ from. Any (HoldsFrom wanted name from) rows) froms

-- the offers that rows state: each row sound, none twice, the names in the order of their first appearance, and of the
-- goods the prices, not too many suppliers, and not too many intervals at any
pub record StatesOffers (wanted : Wanted) (rows : List Row) (offers : OffersData) : Type 0 where
  pub each_row : All IsOfferRow rows
  pub distinct : AllPairs (λ a b. ¬ (SameOffer a b)) rows
  pub sellers_are : offers.sellers ≡ with_names [] (map supplier rows)
  pub offered_are : offers.offered ≡ with_names [] (map part rows)
  pub suppliers_are : offers.suppliers ≡ with_names [] (map supplier (goods_in wanted rows))
  pub prices_are : AllZip (StatesPrice wanted offers.suppliers) (goods_in wanted rows) offers.prices
  pub few_suppliers : length offers.suppliers ≤ SUPPLIERS_MAX
  pub few_intervals : (name froms : List ℕ) → AreIntervals wanted rows name froms → length froms ≤ INTERVALS_MAX

-- Offers come exactly where the rows state them.
abbrev pub OffersAreWhole : Type 0
OffersAreWhole = (wanted : Wanted) (rows : List Row) (offers : OffersData) → (checked_offers wanted rows ≡ Ok offers) ↔ StatesOffers wanted rows offers

-- the row brings a supplier of goods beside as many as there may be
pub record BringsSupplier (wanted : Wanted) (offers : OffersData) (row : Row) : Type 0 where
  pub of_good : IsSome (good_of wanted (part row))
  pub new : ¬ (Contains offers.suppliers (supplier row))
  pub full : length offers.suppliers ≡ SUPPLIERS_MAX

-- with the row its supplier has more intervals than there may be
abbrev pub BringsInterval : Wanted → List Row → Row → Type 0
BringsInterval wanted before row = (froms : List ℕ) × AreIntervals wanted (before ++ row ∷ []) (supplier row) froms × (INTERVALS_MAX < length froms)

-- what each fault says of the first row that has one, after rows that state these offers
abbrev pub IsOfferFault : Wanted → List Row → List Row → OffersData → Row → OfferFault → Type 0
IsOfferFault wanted rows before offers row (Rows fault) = ⊥
IsOfferFault wanted rows before offers row (Name at) = StandsAfter rows before row at × ¬ (IsName (supplier row) × IsName (part row))
IsOfferFault wanted rows before offers row (From at) = StandsAfter rows before row at × IsName (supplier row) × IsName (part row) × (from_of row ≡ None)
IsOfferFault wanted rows before offers row (Price at) = StandsAfter rows before row at × IsName (supplier row) × IsName (part row) × IsSome (from_of row) × (amount_of row ≡ None)
IsOfferFault wanted rows before offers row (Twice at) = StandsAfter rows before row at × IsOfferRow row × Any (SameOffer row) before
IsOfferFault wanted rows before offers row (TooManySuppliers at) = StandsAfter rows before row at × IsOfferRow row × ¬ (Any (SameOffer row) before) × BringsSupplier wanted offers row
IsOfferFault wanted rows before offers row (TooManyIntervals at) = StandsAfter rows before row at × IsOfferRow row × ¬ (Any (SameOffer row) before) × ¬ (BringsSupplier wanted offers row) × BringsInterval wanted before row

-- Each fault comes exactly where a row has it after rows that state offers.
abbrev pub OfferFaultsAreFirst : Type 0
OfferFaultsAreFirst = (wanted : Wanted) (rows : List Row) (fault : OfferFault)
    → (checked_offers wanted rows ≡ Err fault) ↔ ((before : List Row) × (row : Row) × (offers : OffersData) × StatesOffers wanted before offers × IsOfferFault wanted rows before offers row fault)

-- A fault of the file's form comes exactly where its records have it, before all other faults.
abbrev pub OfferFormComesFirst : Type 0
OfferFormComesFirst = (wanted : Wanted) (needs : List ℕ) (bytes : List ℕ) (fault : RowFault) → (book_in wanted needs bytes ≡ Err (Rows fault)) ↔ (table_of offer_columns (records_of bytes) ≡ Err fault)
