-- What holds of the numbers of every job.
use Rattle.std.specs.Prelude.{ℕ, ◌≡◌, ◌+◌, ◌*◌, ◌<◌, ◌≤◌, List, length, slice_index, slice_index_or}
use Rattle.tqd_base.specs.declared.limits.TheConstants.{QTY_MAX, PRICE_MAX, GOODS_MAX, SUPPLIERS_MAX, INTERVALS_MAX}
use Rattle.tqd_instance.specs.declared.supplier.Segment.{Segment}
use Rattle.tqd_instance.specs.declared.supplier.Supplier.{Supplier}
use Rattle.tqd_instance.specs.Offer.{no_segment, no_supplier}

-- segment 0: the total is 0, and no price is paid
pub record IsNothing (goods : ℕ) (s : Segment) : Type 0 where
  pub low : s.low ≡ 0
  pub high : s.high ≡ 0
  pub width : length s.prices ≡ goods
  pub prices : (k : ℕ) → slice_index s.prices k ≡ 0

-- a segment in which something is bought
pub record IsSegment (goods : ℕ) (s : Segment) : Type 0 where
  pub from_one : 1 ≤ s.low
  pub ordered : s.low ≤ s.high
  pub within : s.high ≤ QTY_MAX
  pub width : length s.prices ≡ goods
  pub prices : (k : ℕ) → slice_index s.prices k ≤ PRICE_MAX

-- a supplier of so many goods: segment 0, and at most 16 segments after it, each beginning where the one before ends
pub record IsSupplier (goods : ℕ) (s : Supplier) : Type 0 where
  pub fee : s.fee ≤ PRICE_MAX
  pub width : length s.stocks ≡ goods
  pub stocks : (k : ℕ) → slice_index s.stocks k ≤ QTY_MAX
  pub some : 1 ≤ length s.segments
  pub few : length s.segments ≤ INTERVALS_MAX + 1
  pub first : IsNothing goods (slice_index_or s.segments 0 no_segment)
  pub segments : (j : ℕ) → 1 ≤ j → j < length s.segments → IsSegment goods (slice_index_or s.segments j no_segment)
  pub contiguous : (j : ℕ) → 1 ≤ j → j + 1 < length s.segments
      → (slice_index_or s.segments (j + 1) no_segment).low ≡ (slice_index_or s.segments j no_segment).high + 1

-- the need of a good and the most that may be bought of it
pub record IsGood (need most : ℕ) : Type 0 where
  pub some : 1 ≤ need
  pub within : need ≤ QTY_MAX
  pub ordered : need ≤ most
  pub bounded : most ≤ SUPPLIERS_MAX * QTY_MAX

-- the numbers of a job
pub record IsJob (needs mosts : List ℕ) (suppliers : List Supplier) (least_winners most_winners : ℕ) : Type 0 where
  pub few_goods : length needs ≤ GOODS_MAX
  pub width : length mosts ≡ length needs
  pub goods : (k : ℕ) → k < length needs → IsGood (slice_index needs k) (slice_index mosts k)
  pub few_suppliers : length suppliers ≤ SUPPLIERS_MAX
  pub offers : (i : ℕ) → i < length suppliers → IsSupplier (length needs) (slice_index_or suppliers i no_supplier)
  pub winners_ordered : least_winners ≤ most_winners
  pub few_winners : most_winners ≤ SUPPLIERS_MAX
