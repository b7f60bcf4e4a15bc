-- The parts of being well formed.
use Rattle.std.specs.Prelude.{ℕ, ◌≡◌, ◌≤◌, List, length, All}
use Rattle.std.specs.List.{AllPairs}
use Rattle.tqd_base.specs.declared.limits.TheConstants.{QTY_MAX, SUPPLIERS_MAX, INTERVALS_MAX}
use Rattle.tqd_instance.specs.PartsData.{PartsData}
use Rattle.tqd_instance.specs.Parts.{IsPriceRow, IsStockRow, IsTotalRow, IsShareRow, IsFeeRow, IsOverRow, SamePrice, SameStock, AreFroms}

-- every number in its range
pub record IsInRanges (parts : PartsData) : Type 0 where
  pub suppliers : parts.suppliers ≤ SUPPLIERS_MAX
  pub needs : All (λ n. (1 ≤ n) × (n ≤ QTY_MAX)) parts.needs
  pub prices : All (IsPriceRow parts.suppliers (length parts.needs)) parts.prices
  pub stocks : All (IsStockRow parts.suppliers (length parts.needs)) parts.stocks
  pub totals : All (IsTotalRow parts.suppliers) parts.totals
  pub shares : All (IsShareRow parts.suppliers) parts.shares
  pub fees : All (IsFeeRow parts.suppliers) parts.fees
  pub overs : All (IsOverRow (length parts.needs)) parts.overs
  pub least_winners : parts.least_winners ≤ SUPPLIERS_MAX
  pub most_winners : parts.most_winners ≤ SUPPLIERS_MAX

-- no key twice
pub record HasKeysOnce (parts : PartsData) : Type 0 where
  pub one_price : AllPairs (λ a b. SamePrice a b → ⊥) parts.prices
  pub one_stock : AllPairs (λ a b. SameStock a b → ⊥) parts.stocks
  pub one_total : AllPairs (λ a b. a.supplier ≡ b.supplier → ⊥) parts.totals
  pub one_share : AllPairs (λ a b. a.supplier ≡ b.supplier → ⊥) parts.shares
  pub one_fee : AllPairs (λ a b. a.supplier ≡ b.supplier → ⊥) parts.fees
  pub one_over : AllPairs (λ a b. a.good ≡ b.good → ⊥) parts.overs

-- few intervals of each supplier
abbrev pub HasFewIntervals : PartsData → Type 0
HasFewIntervals parts = (i : ℕ) (froms : List ℕ) → AreFroms parts i froms → length froms ≤ INTERVALS_MAX
