-- What orders and a bill of materials are, as plain data, and what holds of every one.
use Rattle.std.specs.Prelude.{◌≡◌, ◌≢◌, ◌<◌, ◌≤◌, ℕ, List, length, All}
use Rattle.std.specs.List.{AllPairs}
use Rattle.tqd_base.specs.declared.limits.TheConstants.{QTY_MAX, NAMES_MAX, LINES_MAX}
use Rattle.bom_reader.specs.declared.line.Line.{Line}

-- the names that are ordered, and the units ordered of each
pub record OrdersData : Type 0 where
  pub names : List (List ℕ)
  pub ordered : List ℕ

-- all names, the units ordered of each, which are 0 for a name of the bill alone, and the lines of the bill
pub record BillData : Type 0 where
  pub names : List (List ℕ)
  pub ordered : List ℕ
  pub lines : List Line

-- names, each once, with a quantity for each
pub record AreOrders (names : List (List ℕ)) (ordered : List ℕ) : Type 0 where
  pub few_names : length names ≤ NAMES_MAX
  pub distinct : AllPairs (λ a b. a ≢ b) names
  pub one_each : length ordered ≡ length names
  pub within : All (λ units. units ≤ QTY_MAX) ordered

abbrev pub line_with : ℕ → ℕ → ℕ → Line
line_with assembly part quantity = record { assembly = assembly; part = part; quantity = quantity }

-- a line between two of so many names
pub record IsLine (names : ℕ) (line : Line) : Type 0 where
  pub assembly : line.assembly < names
  pub part : line.part < names
  pub some : 1 ≤ line.quantity
  pub within : line.quantity ≤ QTY_MAX

-- what every bill keeps
pub record IsBill (bill : BillData) : Type 0 where
  pub orders : AreOrders bill.names bill.ordered
  pub few_lines : length bill.lines ≤ LINES_MAX
  pub each_line : All (IsLine (length bill.names)) bill.lines
