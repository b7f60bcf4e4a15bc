-- When the parts of a job are well formed: every number in its range, and no key twice.
use Rattle.std.specs.Prelude.{ℕ, ◌≡◌, ◌<◌, ◌≤◌, ◌↔◌, List, length, All, map, filter, ◌==◌, Contains, Option, Some, None}
use Rattle.std.specs.List.{AllPairs}
use Rattle.std.specs.List.Sorted.{IsStrictlyIncreasing}
use Rattle.tqd_base.specs.declared.limits.TheConstants.{QTY_MAX, PRICE_MAX, SUPPLIERS_MAX, INTERVALS_MAX}
use Rattle.tqd_instance.specs.declared.parts.PriceRow.{PriceRow}
use Rattle.tqd_instance.specs.declared.parts.StockRow.{StockRow}
use Rattle.tqd_instance.specs.declared.parts.TotalRow.{TotalRow}
use Rattle.tqd_instance.specs.declared.parts.ShareRow.{ShareRow}
use Rattle.tqd_instance.specs.declared.parts.FeeRow.{FeeRow}
use Rattle.tqd_instance.specs.declared.parts.Over.{Over}
use Rattle.tqd_instance.specs.declared.parts.Over.TheVariants.{Percent, Any as AnyAmount}
use Rattle.tqd_instance.specs.declared.parts.OverRow.{OverRow}
use Rattle.tqd_instance.specs.PartsData.{PartsData}

-- the thousandths of a share that are all of it
abbrev pub WHOLE : ℕ
WHOLE = 1000

-- from..: the least total at which a price holds, as the offers of one supplier state them
abbrev pub froms_stated : PartsData → ℕ → List ℕ
froms_stated parts i = map (λ r. r.from) (filter (λ r. r.supplier == i) parts.prices)

-- the numbers at which the intervals of a supplier begin: those of its offers, each once, in rising order
pub record AreFroms (parts : PartsData) (i : ℕ) (froms : List ℕ) : Type 0 where
  pub rising : IsStrictlyIncreasing froms
  pub stated : (from : ℕ) → Contains froms from ↔ Contains (froms_stated parts i) from

pub record IsPriceRow (suppliers goods : ℕ) (r : PriceRow) : Type 0 where
  pub supplier : r.supplier < suppliers
  pub some : 1 ≤ r.from
  pub from : r.from ≤ QTY_MAX
  pub good : r.good < goods
  pub price : r.price ≤ PRICE_MAX

pub record IsStockRow (suppliers goods : ℕ) (r : StockRow) : Type 0 where
  pub supplier : r.supplier < suppliers
  pub good : r.good < goods
  pub units : r.units ≤ QTY_MAX

pub record IsTotalRow (suppliers : ℕ) (r : TotalRow) : Type 0 where
  pub supplier : r.supplier < suppliers
  pub units : r.units ≤ QTY_MAX

-- a number that is not given is in every range
abbrev pub IsAtMost : ℕ → Option ℕ → Type 0
IsAtMost limit None = Unit {0}
IsAtMost limit (Some n) = n ≤ limit

pub record IsShareRow (suppliers : ℕ) (r : ShareRow) : Type 0 where
  pub supplier : r.supplier < suppliers
  pub low : r.low ≤ WHOLE
  pub high : IsAtMost WHOLE r.high

pub record IsFeeRow (suppliers : ℕ) (r : FeeRow) : Type 0 where
  pub supplier : r.supplier < suppliers
  pub fee : r.fee ≤ PRICE_MAX

abbrev pub IsOver : Over → Type 0
IsOver (Percent p) = p ≤ 1000
IsOver AnyAmount = Unit {0}

abbrev pub IsBelow : ℕ → Option ℕ → Type 0
IsBelow limit None = Unit {0}
IsBelow limit (Some n) = n < limit

pub record IsOverRow (goods : ℕ) (r : OverRow) : Type 0 where
  pub good : IsBelow goods r.good
  pub over : IsOver r.over

-- two price rows of one supplier, interval and good
pub record SamePrice (a b : PriceRow) : Type 0 where
  pub supplier : a.supplier ≡ b.supplier
  pub from : a.from ≡ b.from
  pub good : a.good ≡ b.good

pub record SameStock (a b : StockRow) : Type 0 where
  pub supplier : a.supplier ≡ b.supplier
  pub good : a.good ≡ b.good

pub record IsWellFormed (parts : PartsData) : Type 0 where
  pub suppliers : parts.suppliers ≤ SUPPLIERS_MAX
  pub needs : All (λ n. (1 ≤ n) × (n ≤ QTY_MAX)) parts.needs
  pub prices : All (IsPriceRow parts.suppliers (length parts.needs)) parts.prices
  pub stocks : All (IsStockRow parts.suppliers (length parts.needs)) parts.stocks
  pub totals : All (IsTotalRow parts.suppliers) parts.totals
  pub shares : All (IsShareRow parts.suppliers) parts.shares
  pub fees : All (IsFeeRow parts.suppliers) parts.fees
  pub overs : All (IsOverRow (length parts.needs)) parts.overs
  pub least_winners : parts.least_winners ≤ SUPPLIERS_MAX
  pub most_winners : parts.most_winners ≤ SUPPLIERS_MAX
  pub one_price : AllPairs (λ a b. SamePrice a b → ⊥) parts.prices
  pub one_stock : AllPairs (λ a b. SameStock a b → ⊥) parts.stocks
  pub one_total : AllPairs (λ a b. a.supplier ≡ b.supplier → ⊥) parts.totals
  pub one_share : AllPairs (λ a b. a.supplier ≡ b.supplier → ⊥) parts.shares
  pub one_fee : AllPairs (λ a b. a.supplier ≡ b.supplier → ⊥) parts.fees
  pub one_over : AllPairs (λ a b. a.good ≡ b.good → ⊥) parts.overs
  pub few_intervals : (i : ℕ) (froms : List ℕ) → AreFroms parts i froms → length froms ≤ INTERVALS_MAX
