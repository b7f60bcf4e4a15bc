-- What a pricing has, as plain data.
use Rattle.std.specs.Prelude.{ℕ, ◌≡◌, ◌^◌, ℤ, pos, neg_ℤ, ◌≤ℤ◌, List, [], length, slice_index_or}
use Rattle.std.specs.List.{All}
use Rattle.lagrangian.specs.declared.supplier.SupplierPrices.{SupplierPrices}
use Rattle.lagrangian.specs.declared.offer.Offer.{Offer}
use Rattle.lagrangian.specs.Priced.{IsGoodPrice, IsInRange, place_of, worth_of, units_of}

-- the prices of the goods, what was found for each supplier, and the value of the row of all these prices
pub record PricingState : Type 0 where
  pub goods : List ℤ
  pub suppliers : List SupplierPrices
  pub value : ℤ

abbrev pub no_prices : SupplierPrices
no_prices = record { places = []; worths = []; least = 0; units = [] }

-- what was found for a supplier
unfoldable pub supplier_prices : PricingState → ℕ → SupplierPrices
supplier_prices state i = slice_index_or state.suppliers i no_prices

-- the price of a segment's place, in millionths a unit of the total
abbrev pub place : PricingState → ℕ → ℕ → ℤ
place state i = place_of (supplier_prices state i)

-- what a segment is worth at that price, in millionths
abbrev pub worth : PricingState → ℕ → ℕ → ℤ
worth state i = worth_of (supplier_prices state i)

-- the first segment of a supplier's range that is worth the least
abbrev pub least : PricingState → ℕ → ℕ
least state i = (supplier_prices state i).least

-- the units of a good in that segment
abbrev pub units : PricingState → ℕ → ℕ → ℕ
units state i = units_of (supplier_prices state i)

-- what holds of the numbers of every pricing, which has an offer for each good to work with
pub record IsPricingInRange (good_prices : List ℤ) (found : List SupplierPrices) (amount : ℤ) (offers : List Offer)
    : Type 0 where
  pub good_range : All IsGoodPrice good_prices
  pub found_range : All (IsInRange (length good_prices)) found
  pub not_less : neg_ℤ (pos (10 ^ 30)) ≤ℤ amount
  pub not_more : amount ≤ℤ pos (10 ^ 30)
  pub room : length offers ≡ length good_prices
