-- The best price of a segment's place for prices of the goods, what the segment is worth there, and the cheapest units
-- in it.
use Rattle.std.specs.Prelude.{ℕ, ◌≡◌, ◌+◌, ◌<◌, ◌≤◌, ◌==◌, if◌then◌else◌, ℤ, pos, neg_ℤ, ◌+ℤ◌, ◌-ℤ◌, ◌*ℤ◌, ◌≤ℤ◌, ◌<ℤ◌, ◌^◌, ◌*◌, List, length, slice_index}
use Rattle.std.specs.Int.RustNames.{unsigned_abs}
use Rattle.std.specs.List.{All}
use Rattle.tqd_base.specs.Sum.{sum_to, signed_sum_to}
use Rattle.tqd_base.specs.declared.limits.TheConstants.{QTY_MAX, INTERVALS_MAX}
use Rattle.tqd_instance.specs.declared.job.Job.{Job}
use Rattle.tqd_instance.specs.Job.{goods, low, high, price, fee}
use Rattle.tqd_instance.specs.Picks.{LiesIn}
use Rattle.interval_box.specs.declared.boxes.IntervalBox.{IntervalBox}
use Rattle.interval_box.specs.Ranges.{Admits}
use Rattle.bound_tree.specs.Prices.{price_at, IsPrice}
use Rattle.bound_tree.specs.Value.{charges_of, cap, segment_value}
use Rattle.lagrangian.specs.declared.offer.TheConstants.{ZERO}
use Rattle.lagrangian.specs.declared.supplier.SupplierPrices.{SupplierPrices}
use Rattle.lagrangian.specs.Levels.{goods_under, goods_up_to, IsBalanced}

-- a price of a good within 2 * 10^15 of 0, half of the limit of prices in rows
pub record IsGoodPrice (price : ℤ) : Type 0 where
  pub not_less : neg_ℤ (pos (2 * 10 ^ 15)) ≤ℤ price
  pub not_more : price ≤ℤ pos (2 * 10 ^ 15)

-- a price of each good of a job
pub record AreGoodPrices (job : Job) (prices : List ℤ) : Type 0 where
  pub count : length prices ≡ goods job
  pub in_range : All IsGoodPrice prices

-- what a segment may be worth
pub record IsWorth (worth : ℤ) : Type 0 where
  pub not_less : neg_ℤ (pos (10 ^ 27)) ≤ℤ worth
  pub not_more : worth ≤ℤ pos (10 ^ 27)

-- the price of a segment's place, what the segment is worth, and the units of a good, as they are kept of a supplier
unfoldable pub place_of : SupplierPrices → ℕ → ℤ
place_of p j = price_at p.places j

unfoldable pub worth_of : SupplierPrices → ℕ → ℤ
worth_of p j = price_at p.worths j

unfoldable pub units_of : SupplierPrices → ℕ → ℕ
units_of p k = slice_index p.units k

-- numbers of a supplier in their ranges: a place for each segment, and units of each of so many goods
pub record IsInRange (width : ℕ) (p : SupplierPrices) : Type 0 where
  pub place_count : length p.places ≡ INTERVALS_MAX + 1
  pub worth_count : length p.worths ≡ INTERVALS_MAX + 1
  pub place_prices : All IsPrice p.places
  pub worth_range : All IsWorth p.worths
  pub least_range : p.least ≤ INTERVALS_MAX
  pub unit_count : length p.units ≡ width
  pub unit_range : All (λ n. n ≤ QTY_MAX) p.units

-- the level of a good: what is left of its price beside the good's price, counted up from ZERO
unfoldable pub level_of : Job → List ℤ → ℕ → ℕ → ℕ → ℕ
level_of job good_prices i j k = unsigned_abs (pos (ZERO + price job i j k) -ℤ price_at good_prices k)

-- a level that balances what supplier i has of the goods with the totals in segment j
abbrev pub IsBalancedAt : Job → List ℤ → ℕ → ℕ → ℕ → Type 0
IsBalancedAt job good_prices i j level =
    IsBalanced (goods_under (goods job) (level_of job good_prices i j) (cap job i) level)
    (goods_up_to (goods job) (level_of job good_prices i j) (cap job i) level) (low job i j) (high job i j) level

-- the price of a segment's place at which the segment is worth so much; at no price within the limit is it worth more
pub record IsBestPlace (job : Job) (good_prices : List ℤ) (i j : ℕ) (place worth : ℤ) : Type 0 where
  pub in_range : IsPrice place
  pub is_worth : worth ≡ segment_value (charges_of job) job good_prices place i j
  pub best : (other : ℤ) → IsPrice other → segment_value (charges_of job) job good_prices other i j ≤ℤ worth

-- such a price that stands for a level that balances
pub record IsFoundPlace (job : Job) (good_prices : List ℤ) (i j : ℕ) (place worth : ℤ) : Type 0 where
  pub best_place : IsBestPlace job good_prices i j place worth
  pub worth_range : IsWorth worth
  pub balances : 1 ≤ j → (level : ℕ) → pos level ≡ pos ZERO +ℤ place → IsBalancedAt job good_prices i j level

-- the first segment of a supplier's range that is worth the least
pub record IsFirstLeast (area : IntervalBox) (i : ℕ) (worth : ℕ → ℤ) (j : ℕ) : Type 0 where
  pub admitted : Admits area i j
  pub least : (other : ℕ) → Admits area i other → worth j ≤ℤ worth other
  pub first : (other : ℕ) → Admits area i other → other < j → worth j <ℤ worth other

-- units of each good that a supplier can sell
abbrev pub AreWithinCaps : Job → ℕ → (ℕ → ℕ) → Type 0
AreWithinCaps job i units = (k : ℕ) → k < goods job → units k ≤ cap job i k

-- what units cost in a segment beyond the prices of the goods, with the fee where it is not segment 0
unfoldable pub cost_beyond : Job → List ℤ → ℕ → ℕ → (ℕ → ℕ) → ℤ
cost_beyond job good_prices i j units = if j == 0 then pos 0
    else (pos (fee job i)
    +ℤ signed_sum_to (goods job) (λ k. pos (units k) *ℤ (pos (price job i j k) -ℤ price_at good_prices k)))

-- units that lie in a segment and cost what it is worth
pub record AreBoughtFor (job : Job) (good_prices : List ℤ) (i j : ℕ) (units : ℕ → ℕ) (worth : ℤ) : Type 0 where
  pub lies : LiesIn job i j (sum_to (goods job) units)
  pub cost : cost_beyond job good_prices i j units ≡ worth

-- units that the supplier can sell: where any such units lie in the segment, these do and cost what it is worth, and no
-- others that do cost less
pub record AreCheapest (job : Job) (good_prices : List ℤ) (i j : ℕ) (units : ℕ → ℕ) (worth : ℤ) : Type 0 where
  pub within : AreWithinCaps job i units
  pub where_any : (other : ℕ → ℕ) → AreWithinCaps job i other → LiesIn job i j (sum_to (goods job) other)
      → AreBoughtFor job good_prices i j units worth
  pub none_cheaper : (other : ℕ → ℕ) → AreWithinCaps job i other → LiesIn job i j (sum_to (goods job) other)
      → worth ≤ℤ cost_beyond job good_prices i j other

-- the places of a supplier's range are priced, and the first segment that is worth the least is filled
pub record IsSupplierPriced (job : Job) (area : IntervalBox) (good_prices : List ℤ) (i : ℕ) (p : SupplierPrices)
    : Type 0 where
  pub each_place : (j : ℕ) → Admits area i j → IsBestPlace job good_prices i j (place_of p j) (worth_of p j)
  pub first_least : IsFirstLeast area i (worth_of p) p.least
  pub cheapest : AreCheapest job good_prices i p.least (units_of p) (worth_of p p.least)
