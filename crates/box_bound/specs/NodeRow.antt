-- Numbers of the nodes of a box's net, and the row of prices that they are.
use Rattle.std.specs.Prelude.{ℕ, ◌≡◌, ◌+◌, ◌<◌, ◌≤◌, ◌==◌, if◌then◌else◌, ℤ, pos, neg_ℤ, ◌-ℤ◌, Bool, List, length}
use Rattle.std.specs.List.{All}
use Rattle.mcf_lower.specs.Answers.{has_of}
use Rattle.tqd_instance.specs.declared.job.Job.{Job}
use Rattle.tqd_instance.specs.Job.{goods, suppliers}
use Rattle.interval_box.specs.declared.boxes.IntervalBox.{IntervalBox}
use Rattle.interval_box.specs.Ranges.{Admits}
use Rattle.flow_prices.specs.Prices.{number_of}
use Rattle.bound_tree.specs.Prices.{Prices, IsPrice, price_at, segment_price, places_to, place_of, count_of, Fits}
use Rattle.box_bound.specs.BoxNet.{supplier_node, good_node}

-- a number for each node, within the limit of prices, 0 for the hub
pub record AreNodeNumbers (job : Job) (numbers : List ℤ) : Type 0 where
  pub nodes : length numbers ≡ 1 + suppliers job + goods job
  pub hub : number_of numbers 0 ≡ pos 0
  pub each : (v : ℕ) → v < 1 + suppliers job + goods job → IsPrice (number_of numbers v)

-- the row of numbers: a good has the number of its node, and each segment of a supplier that of the supplier's with the other sign
pub record IsRowOf (job : Job) (area : IntervalBox) (numbers : List ℤ) (row : Prices) : Type 0 where
  pub fits : Fits job area row
  pub goods : (k : ℕ) → k < goods job → price_at row.goods k ≡ number_of numbers (good_node job k)
  pub segments : (i j : ℕ) → i < suppliers job → 1 ≤ j → Admits area i j → segment_price area row i j ≡ neg_ℤ (number_of numbers (supplier_node i))

-- a list that has n numbers more, the next ones
pub record HasNext (old new : List ℤ) (n : ℕ) (next : ℕ → ℤ) : Type 0 where
  pub count : length new ≡ length old + n
  pub kept : (a : ℕ) → a < length old → number_of new a ≡ number_of old a
  pub each : (k : ℕ) → k < n → number_of new (length old + k) ≡ next k

-- the prices of the segments of the first n suppliers, which are those of their nodes with the other sign
pub record ArePlacePrices (area : IntervalBox) (numbers : List ℤ) (n : ℕ) (prices : List ℤ) : Type 0 where
  pub count : length prices ≡ places_to area n
  pub same : (i j : ℕ) → i < n → 1 ≤ j → Admits area i j → price_at prices (place_of area i j) ≡ neg_ℤ (number_of numbers (supplier_node i))
  pub in_range : All IsPrice prices

-- the numbers of a cut: 1 for the nodes in it and 0 for the others, all less that of the hub
abbrev pub cut_number : List Bool → ℕ → ℤ
cut_number members v = pos (if has_of members v then 1 else 0) -ℤ pos (if has_of members 0 then 1 else 0)

-- the number that a row gives a supplier's node: the price of the first segment of the range with the other sign, or 0
unfoldable pub start_number : IntervalBox → Prices → ℕ → ℤ
start_number area row i = if count_of area i == 0 then pos 0 else neg_ℤ (price_at row.places (places_to area i))

-- the numbers that a row gives all nodes
pub record AreStartNumbers (job : Job) (area : IntervalBox) (row : Prices) (numbers : List ℤ) : Type 0 where
  pub in_range : AreNodeNumbers job numbers
  pub suppliers : (i : ℕ) → i < suppliers job → number_of numbers (supplier_node i) ≡ start_number area row i
  pub goods : (k : ℕ) → k < goods job → number_of numbers (good_node job k) ≡ price_at row.goods k
