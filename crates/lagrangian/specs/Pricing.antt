-- When a pricing is that of prices of the goods in a box.
use Rattle.std.specs.Prelude.{ℕ, zero, suc, ◌≡◌, ◌<◌, ℤ, ◌≤ℤ◌, List, [], ◌++◌, length, take, drop}
use Rattle.tqd_instance.specs.declared.job.Job.{Job}
use Rattle.tqd_instance.specs.Job.{goods, suppliers}
use Rattle.interval_box.specs.declared.boxes.IntervalBox.{IntervalBox}
use Rattle.bound_tree.specs.Prices.{Prices, Fits, first_of, count_of}
use Rattle.bound_tree.specs.Value.{value}
use Rattle.lagrangian.specs.Priced.{IsSupplierPriced}
use Rattle.lagrangian.specs.PricingState.{PricingState, supplier_prices}

-- a pricing of a job's size
pub record IsMadeFor (job : Job) (state : PricingState) : Type 0 where
  pub good_count : length state.goods ≡ goods job
  pub supplier_count : length state.suppliers ≡ suppliers job

-- the prices of a supplier's places in a box, and those of the first n suppliers, one after another
unfoldable pub range_places : IntervalBox → PricingState → ℕ → List ℤ
range_places area state i = take (count_of area i) (drop (first_of area i) (supplier_prices state i).places)

unfoldable pub all_places : IntervalBox → PricingState → ℕ → List ℤ
all_places area state zero = []
all_places area state (suc n) = all_places area state n ++ range_places area state n

-- the row of the goods' prices and of the places' prices in a box
unfoldable pub row_of : Job → IntervalBox → PricingState → Prices
row_of job area state = record { goods = state.goods; places = all_places area state (suppliers job) }

-- no row of the same goods' prices has a greater value than this one
pub record IsBestRow (job : Job) (area : IntervalBox) (good_prices : List ℤ) (amount : ℤ) (row : Prices) : Type 0 where
  pub fits : Fits job area row
  pub same_goods : row.goods ≡ good_prices
  pub is_value : amount ≡ value job area row
  pub best : (other : Prices) → Fits job area other → other.goods ≡ good_prices → value job area other ≤ℤ amount

-- a pricing is that of these prices of the goods in a box: its row is the best with them, its value is that of the row,
-- and each supplier is priced
pub record IsPricedFor (job : Job) (area : IntervalBox) (good_prices : List ℤ) (state : PricingState) : Type 0 where
  pub made : IsMadeFor job state
  pub same_goods : state.goods ≡ good_prices
  pub best_row : IsBestRow job area good_prices state.value (row_of job area state)
  pub each_supplier : (i : ℕ) → i < suppliers job → IsSupplierPriced job area good_prices i (supplier_prices state i)
