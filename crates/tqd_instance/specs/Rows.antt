-- The rows of one supplier, and the first value that pairs state for a good.
use Rattle.std.specs.Prelude.{ℕ, ◌&&◌, ◌*◌, ◌/◌, sum, unwrap_or, option_and_then, Bool, true, false, ◌≡◌, ◌<◌, ◌==◌, List, map, filter, find, length, Option, None, option_map, slice_index_or}
use Rattle.std.specs.List.{list_any}
use Rattle.tqd_instance.specs.declared.parts.PriceRow.{PriceRow}
use Rattle.tqd_instance.specs.declared.supplier.Segment.{Segment}
use Rattle.tqd_instance.specs.declared.supplier.Supplier.{Supplier}
use Rattle.tqd_instance.specs.JobFacts.{IsSupplier}
use Rattle.tqd_instance.specs.PartsData.{PartsData}
use Rattle.tqd_base.specs.declared.limits.TheConstants.{QTY_MAX}
use Rattle.tqd_instance.specs.Parts.{WHOLE}
use Rattle.tqd_instance.specs.Built.{price_stated, LacksPrice, IsSupplierOf, intervals, limits_of, cut, has_total, segment_of}

-- the price rows of a supplier
abbrev pub rows_of : PartsData → ℕ → List PriceRow
rows_of parts i = filter (λ r. r.supplier == i) parts.prices

-- the value of the first pair of a good
unfoldable pub first_value : List (ℕ × ℕ) → ℕ → Option ℕ
first_value pairs k = option_map (λ e. e.1) (find (λ e. e.0 == k) pairs)

-- whether some row is of a good
unfoldable pub offers_in : List PriceRow → ℕ → Bool
offers_in rows k = list_any (λ r. r.good == k) rows

-- a list with a value for each good
pub record AreValues {A : Type 0} (goods : ℕ) (default : A) (value : ℕ → A) (xs : List A) : Type 0 where
  pub width : length xs ≡ goods
  pub values : (k : ℕ) → k < goods → slice_index_or xs k default ≡ value k

-- a good that is offered and has no price
pub record IsMissing (offered : List Bool) (prices : List (Option ℕ)) (k : ℕ) : Type 0 where
  pub offered_here : slice_index_or offered k false ≡ true
  pub no_price : slice_index_or prices k None ≡ None

pub record IsFirstMissing (offered : List Bool) (prices : List (Option ℕ)) (k : ℕ) : Type 0 where
  pub in_range : k < length offered
  pub missing : IsMissing offered prices k
  pub first : (good : ℕ) → good < k → IsMissing offered prices good → ⊥

abbrev pub HasNoMissing : List Bool → List (Option ℕ) → Type 0
HasNoMissing offered prices = (k : ℕ) → k < length offered → IsMissing offered prices k → ⊥

-- the first good that a supplier lacks a price of, in one interval
pub record IsFirstLackAt (parts : PartsData) (i from k : ℕ) : Type 0 where
  pub lacks : LacksPrice parts i from k
  pub first_good : (good : ℕ) → good < k → LacksPrice parts i from good → ⊥

abbrev pub LacksNoneAt : PartsData → ℕ → ℕ → Type 0
LacksNoneAt parts i from = (k : ℕ) → LacksPrice parts i from k → ⊥

-- the first lack of one supplier
pub record IsFirstLackOf (parts : PartsData) (i from k : ℕ) : Type 0 where
  pub lacks : LacksPrice parts i from k
  pub first_interval : (other good : ℕ) → other < from → LacksPrice parts i other good → ⊥
  pub first_good : (good : ℕ) → good < k → LacksPrice parts i from good → ⊥

abbrev pub LacksNoneOf : PartsData → ℕ → Type 0
LacksNoneOf parts i = (from k : ℕ) → LacksPrice parts i from k → ⊥

-- the segments that are left of the intervals beginning at these numbers
unfoldable pub cut_segments : PartsData → ℕ → List ℕ → List Segment
cut_segments parts i froms = map (segment_of parts i) (filter has_total (map (cut (limits_of parts i)) (intervals froms)))

-- the price of a good in the interval that begins at from, or 0
unfoldable pub price_or_zero : PartsData → ℕ → ℕ → ℕ → ℕ
price_or_zero parts i from k = unwrap_or (price_stated parts i from k) 0

-- the most that the high of a supplier's share leaves
unfoldable pub share_most : PartsData → ℕ → ℕ
share_most parts i =
    unwrap_or (option_map (λ high. high * sum parts.needs / WHOLE) (option_and_then (λ r. r.high) (find (λ r. r.supplier == i) parts.shares))) QTY_MAX

-- the stock of a good at a supplier, where it is stated
unfoldable pub stock_stated : PartsData → ℕ → ℕ → Option ℕ
stock_stated parts i k = option_map (λ r. r.units) (find (λ r. r.supplier == i && r.good == k) parts.stocks)

-- a supplier that is built
pub record IsBuilt (parts : PartsData) (i : ℕ) (supplier : Supplier) : Type 0 where
  pub described : IsSupplierOf parts i supplier
  pub facts : IsSupplier (length parts.needs) supplier
