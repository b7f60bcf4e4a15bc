-- The parts of a job in which the prices of a supplier are cut.
use Rattle.std.specs.Prelude.{ℕ, ◌==◌, ◌≤◌, if◌then◌else◌, List, map}
use Rattle.std.specs.List.{All}
use Rattle.tqd_base.specs.declared.limits.TheConstants.{PRICE_MAX}
use Rattle.tqd_instance.specs.declared.supplier.Segment.{Segment}
use Rattle.tqd_instance.specs.declared.supplier.Supplier.{Supplier}
use Rattle.tqd_instance.specs.Change.{cut_price}

unfoldable pub cut_segment : ℕ → Segment → Segment
cut_segment cut s = record { low = s.low; high = s.high; prices = map (cut_price cut) s.prices }

unfoldable pub cut_supplier : ℕ → Supplier → Supplier
cut_supplier cut s = record { fee = s.fee; stocks = s.stocks; segments = map (cut_segment cut) s.segments }

-- the n-th supplier, where the prices of the i-th are cut
unfoldable pub cut_nth : ℕ → ℕ → ℕ → Supplier → Supplier
cut_nth i cut n s = if n == i then cut_supplier cut s else s

-- no price is above its limit
abbrev pub HasPrices : List ℕ → Type 0
HasPrices = All (λ price. price ≤ PRICE_MAX)

abbrev pub HasPricedSegments : List Segment → Type 0
HasPricedSegments = All (λ (s : Segment). HasPrices s.prices)

abbrev pub HasPricedSuppliers : List Supplier → Type 0
HasPricedSuppliers = All (λ (s : Supplier). HasPricedSegments s.segments)
