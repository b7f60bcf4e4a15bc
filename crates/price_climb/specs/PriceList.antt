-- The prices of a row in one list, and a row in which one of them is another.
use Rattle.std.specs.Prelude.{ℕ, ◌+◌, ℤ, ◌+ℤ◌, set}
use Rattle.tqd_instance.specs.declared.job.Job.{Job}
use Rattle.tqd_instance.specs.Job.{goods, suppliers}
use Rattle.interval_box.specs.declared.boxes.IntervalBox.{IntervalBox}
use Rattle.bound_tree.specs.Prices.{Prices, places_to, price_at, row_of}
use Rattle.bound_tree.specs.TreeText.{all_prices}

-- how many prices a row of a box has
unfoldable pub price_count : Job → IntervalBox → ℕ
price_count job area = goods job + places_to area (suppliers job)

-- the price of that number: those of the goods come first, then those of the box's places
unfoldable pub price_of : Prices → ℕ → ℤ
price_of row n = price_at (all_prices row) n

-- the row with another price of that number
unfoldable pub with_price : Job → Prices → ℕ → ℤ → Prices
with_price job row n price = row_of job (set (all_prices row) n price)

-- the row in which the price of that number is raised by delta, which may be below 0
abbrev pub changed : Job → Prices → ℕ → ℤ → Prices
changed job row n delta = with_price job row n (price_of row n +ℤ delta)
