-- What contracts see of a table, and what it keeps.
use Rattle.std.specs.Prelude.{ℕ, ◌≡◌, ◌<◌, ℤ, ◌+ℤ◌, List, length}
use Rattle.std.specs.List.{HoldsAt}
use Rattle.tqd_instance.specs.declared.job.Job.{Job}
use Rattle.tqd_instance.specs.Job.{suppliers}
use Rattle.interval_box.specs.declared.boxes.IntervalBox.{IntervalBox}
use Rattle.interval_box.specs.Ranges.{IsBoxOf}
use Rattle.bound_tree.specs.Prices.{Prices, Fits}
use Rattle.bound_tree.specs.Value.{value, goods_value}
use Rattle.price_climb.specs.declared.column.Column.{Column}
use Rattle.price_climb.specs.PriceList.{price_count, price_of, changed}
use Rattle.price_climb.specs.Columns.{IsColumn}

-- a job, a box of it, and a row of prices for the box
pub record TableState : Type 0 where
  pub job : Job
  pub area : IntervalBox
  pub row : Prices

abbrev pub value_of : TableState → ℤ
value_of s = value s.job s.area s.row

-- a price of the row has this number
abbrev pub IsPlace : TableState → ℕ → Type 0
IsPlace s n = n < price_count s.job s.area

-- the price of a number, raised by delta
abbrev pub price_after : TableState → ℕ → ℤ → ℤ
price_after s n delta = price_of s.row n +ℤ delta

-- the state after that price is raised
abbrev pub after : TableState → ℕ → ℤ → TableState
after s n delta = record { job = s.job; area = s.area; row = changed s.job s.row n delta }

-- the row fits the box
pub record IsFitting (job : Job) (area : IntervalBox) (row : Prices) : Type 0 where
  pub of_job : IsBoxOf job area
  pub fits : Fits job area row

-- for each supplier the values of its segments in the row are kept
pub record AreColumns (job : Job) (area : IntervalBox) (row : Prices) (n : ℕ) (columns : List Column) : Type 0 where
  pub count : length columns ≡ n
  pub each : (i : ℕ) → i < n → HoldsAt (IsColumn job area row i) columns i

-- what a table keeps: the values of all segments and their least ones, and the sum of the goods, as they are in its row
pub record IsTable (s : TableState) (columns : List Column) (goods_sum : ℤ) : Type 0 where
  pub fitting : IsFitting s.job s.area s.row
  pub each : AreColumns s.job s.area s.row (suppliers s.job) columns
  pub goods : goods_sum ≡ goods_value s.job s.row.goods
