-- A row of prices for a box, in millionths of the currency; a price may be below 0.
use Rattle.std.specs.Prelude.{ℕ, ◌≡◌, ◌+◌, ◌-◌, max, ℤ, pos, neg_ℤ, ◌≤ℤ◌, List, length, take, drop, slice_index_or}
use Rattle.std.specs.List.{All}
use Rattle.tqd_base.specs.declared.limits.TheConstants.{DUAL_MAX}
use Rattle.tqd_instance.specs.declared.job.Job.{Job}
use Rattle.tqd_base.specs.Sum.{sum_to}
use Rattle.tqd_instance.specs.Job.{goods, suppliers}
use Rattle.interval_box.specs.declared.boxes.IntervalBox.{IntervalBox}
use Rattle.interval_box.specs.Ranges.{low_of, high_of}

-- a price of a unit of each good, and a price of a unit of the total in each segment, but segment 0, of each supplier's
-- range: supplier by supplier, and rising within one
pub record Prices : Type 0 where
  pub goods : List ℤ
  pub places : List ℤ

-- the first segment of a supplier's range in which something is bought
unfoldable pub first_of : IntervalBox → ℕ → ℕ
first_of area i = max 1 (low_of area i)

-- how many segments of a supplier's range something is bought in
unfoldable pub count_of : IntervalBox → ℕ → ℕ
count_of area i = high_of area i + 1 - first_of area i

-- how many those are of the first n suppliers together
unfoldable pub places_to : IntervalBox → ℕ → ℕ
places_to area n = sum_to n (count_of area)

-- the place of a segment's price
unfoldable pub place_of : IntervalBox → ℕ → ℕ → ℕ
place_of area i j = places_to area i + (j - first_of area i)

-- the price that stands at a place of a list
unfoldable pub price_at : List ℤ → ℕ → ℤ
price_at prices at = slice_index_or prices at (pos 0)

-- the price of a segment of a supplier's range
unfoldable pub segment_price : IntervalBox → Prices → ℕ → ℕ → ℤ
segment_price area row i j = price_at row.places (place_of area i j)

-- a price within the limit of prices in rows
pub record IsPrice (price : ℤ) : Type 0 where
  pub not_less : neg_ℤ DUAL_MAX ≤ℤ price
  pub not_more : price ≤ℤ DUAL_MAX

-- a row that fits a box: a price for each good of the job and for each place of the box
pub record Fits (job : Job) (area : IntervalBox) (row : Prices) : Type 0 where
  pub goods : length row.goods ≡ goods job
  pub places : length row.places ≡ places_to area (suppliers job)
  pub good_prices : All IsPrice row.goods
  pub place_prices : All IsPrice row.places

-- the row that one list of prices is, those of the goods first
unfoldable pub row_of : Job → List ℤ → Prices
row_of job prices = record { goods = take (goods job) prices; places = drop (goods job) prices }

-- prices in one list for a box: one for each good and one for each place
pub record AreFitting (job : Job) (area : IntervalBox) (prices : List ℤ) : Type 0 where
  pub count : length prices ≡ goods job + places_to area (suppliers job)
  pub in_range : All IsPrice prices
