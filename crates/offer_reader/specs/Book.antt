-- What was read of offers and terms.
use Rattle.std.specs.Prelude.{ℕ, ◌≡◌, ◌≤◌, List, [], length, Result}
use Rattle.std.specs.Result.{result_map_both}
use Rattle.bom_reader.specs.Faults.{and_then}
use Rattle.tqd_instance.specs.declared.parts.PriceRow.{PriceRow}
use Rattle.tqd_instance.specs.PartsData.{PartsData}
use Rattle.tqd_instance.specs.Parts.{IsWellFormed}
use Rattle.tqd_base.specs.declared.limits.TheConstants.{SUPPLIERS_MAX}
use Rattle.offer_reader.specs.Offers.{Wanted, OffersData, offer_rows, checked_offers}
use Rattle.offer_reader.specs.declared.fault.OfferFault.{OfferFault}

-- everyone who stands in a row of the offers, every part that does, the suppliers of goods, and the parts of the job
pub record BookData : Type 0 where
  pub sellers : List (List ℕ)
  pub offered : List (List ℕ)
  pub suppliers : List (List ℕ)
  pub parts : PartsData

-- the parts of a job with these needs, so many suppliers and these prices, and without terms
abbrev pub parts_of : List ℕ → ℕ → List PriceRow → PartsData
parts_of needs suppliers prices = record {
  suppliers = suppliers;
  needs = needs;
  prices = prices;
  stocks = [];
  totals = [];
  shares = [];
  fees = [];
  overs = [];
  least_winners = 0;
  most_winners = 64;
}

abbrev pub book_of : List ℕ → OffersData → BookData
book_of needs offers = record { sellers = offers.sellers; offered = offers.offered; suppliers = offers.suppliers; parts = parts_of needs (length offers.suppliers) offers.prices }

-- what every book keeps: its suppliers are those of the parts, few, and the parts make a job or have a fault that building one names
pub record IsBook (book : BookData) : Type 0 where
  pub suppliers : book.parts.suppliers ≡ length book.suppliers
  pub few : length book.suppliers ≤ SUPPLIERS_MAX
  pub formed : IsWellFormed book.parts

-- no terms are in the parts
abbrev pub HasNoTerms : PartsData → Type 0
HasNoTerms parts = parts ≡ parts_of parts.needs parts.suppliers parts.prices

-- the book that a file of offers gives, where the goods need these units; or the fault
abbrev pub book_in : Wanted → List ℕ → List ℕ → Result BookData OfferFault
book_in wanted needs bytes = and_then (λ rows. result_map_both (book_of needs) (λ fault. fault) (checked_offers wanted rows)) (offer_rows bytes)
