-- What a supplier offers: segments of totals, each with its prices.
use Rattle.std.specs.Prelude.{ℕ, Bool, ◌&&◌, nat_le, if◌then◌else◌, List, [], ◌∷◌, Option, None, Some, option_map, suc}
use Rattle.tqd_instance.specs.declared.supplier.Segment.{Segment}
use Rattle.tqd_instance.specs.declared.supplier.Supplier.{Supplier}

-- what stands past the last segment and the last supplier: nothing
abbrev pub no_segment : Segment
no_segment = record { low = 0; high = 0; prices = [] }

abbrev pub no_supplier : Supplier
no_supplier = record { fee = 0; stocks = []; segments = [] }

-- whether a total lies in a segment
abbrev pub holds : ℕ → Segment → Bool
holds total s = nat_le s.low total && nat_le total s.high

-- the place of the first segment in which a total lies, or none
abbrev pub place_of : ℕ → List Segment → Option ℕ
place_of total [] = None
place_of total (s ∷ rest) = if holds total s then Some 0 else option_map suc (place_of total rest)
