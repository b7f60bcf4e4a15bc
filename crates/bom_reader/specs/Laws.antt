-- When orders and a bill come, and when each fault, in the words of the format. The contracts of `laws` state it.
use Rattle.std.specs.Prelude.{◌≡◌, ◌≢◌, ◌↔◌, ◌⊎◌, ◌<◌, ◌≤◌, ◌+◌, ◌-◌, ℕ, true, List, [], ◌∷◌, ◌++◌, length, map, replicate, All, Any, Contains, Some, None, IsSome, Ok, Err}
use Rattle.std.specs.List.{AllPairs, AllZip}
use Rattle.tqd_base.specs.declared.limits.TheConstants.{NAME_MAX, NAMES_MAX, LINES_MAX}
use Rattle.csv_rows.specs.Rows.{records_of, table_of}
use Rattle.csv_rows.specs.declared.fault.RowFault.{RowFault}
use Rattle.bom_reader.specs.Names.{is_name, number_of, with_names}
use Rattle.bom_reader.specs.Bill.{AreOrders, OrdersData, BillData}
use Rattle.bom_reader.specs.Rows.{Row}
use Rattle.bom_reader.specs.Orders.{product, order_units, order_columns, orders_in, orders_of}
use Rattle.bom_reader.specs.Lines.{assembly, part, line_units, names_in, bill_columns, bill_in, bill_of}
use Rattle.bom_reader.specs.declared.line.Line.{Line}
use Rattle.bom_reader.specs.declared.fault.BillFault.{BillFault}
use Rattle.bom_reader.specs.declared.fault.BillFault.TheVariants.{Rows, TooManyLines, Name, Quantity, TooManyNames, Twice}

-- a name: 1 to 64 bytes, none below 32, and none 127
pub record IsName (text : List ℕ) : Type 0 where
  pub some : 1 ≤ length text
  pub short : length text ≤ NAME_MAX
  pub bytes : All (λ byte. (32 ≤ byte) × (byte ≢ 127)) text

abbrev pub NamesArePlain : Type 0
NamesArePlain = (text : List ℕ) → (is_name text ≡ true) ↔ IsName text

-- Names are numbered by first appearance: those of a list and those added, each once, and names that are added later stand behind.
pub record IsByFirstAppearance (names more : List (List ℕ)) : Type 0 where
  pub distinct : AllPairs (λ a b. a ≢ b) (with_names names more)
  pub members : (name : List ℕ) → Contains (with_names names more) name ↔ Contains (names ++ more) name
  pub behind : (later : List (List ℕ)) → (rest : List (List ℕ)) × (with_names names (more ++ later) ≡ with_names names more ++ rest)

abbrev pub NamesAreByFirstAppearance : Type 0
NamesAreByFirstAppearance = (names more : List (List ℕ)) → AllPairs (λ a b. a ≢ b) names → IsByFirstAppearance names more

-- the orders that rows state: a name and a quantity in each, no name twice, and not too many
pub record StatesOrders (rows : List Row) (orders : OrdersData) : Type 0 where
  pub names_are : orders.names ≡ map product rows
  pub units_are : map (λ units. Some units) orders.ordered ≡ map order_units rows
  pub each_name : All IsName orders.names
  pub distinct : AllPairs (λ a b. a ≢ b) orders.names
  pub few_names : length orders.names ≤ NAMES_MAX

-- Orders come exactly where the rows state them.
abbrev pub OrdersAreWhole : Type 0
OrdersAreWhole = (rows : List Row) (orders : OrdersData) → (orders_of rows ≡ Ok orders) ↔ StatesOrders rows orders

-- the row with this number comes after these
pub record StandsAfter (rows before : List Row) (row : Row) (at : ℕ) : Type 0 where
  pub after : List Row
  pub rows_are : rows ≡ before ++ row ∷ after
  pub number : at ≡ length before + 2

-- a row of orders has a name and a quantity
abbrev pub IsOrderRow : Row → Type 0
IsOrderRow row = IsName (product row) × IsSome (order_units row)

-- what each fault says of the first row of orders that has one
abbrev pub IsOrderFault : List Row → List Row → Row → BillFault → Type 0
IsOrderFault rows before row (Rows fault) = ⊥
IsOrderFault rows before row TooManyLines = ⊥
IsOrderFault rows before row (Name at) = StandsAfter rows before row at × ¬ (IsName (product row))
IsOrderFault rows before row (Quantity at) = StandsAfter rows before row at × IsName (product row) × (order_units row ≡ None)
IsOrderFault rows before row (TooManyNames at) = StandsAfter rows before row at × IsOrderRow row × ¬ (Contains (map product before) (product row)) × (length before ≡ NAMES_MAX)
IsOrderFault rows before row (Twice at) = StandsAfter rows before row at × IsOrderRow row × Contains (map product before) (product row)

-- Each fault comes exactly where a row has it after rows that state orders.
abbrev pub OrderFaultsAreFirst : Type 0
OrderFaultsAreFirst = (rows : List Row) (fault : BillFault)
    → (orders_of rows ≡ Err fault) ↔ ((before : List Row) × (row : Row) × (orders : OrdersData) × StatesOrders before orders × IsOrderFault rows before row fault)

-- the line that a row states: its ends by their numbers
pub record StatesLine (names : List (List ℕ)) (row : Row) (line : Line) : Type 0 where
  pub assembly_is : number_of names (assembly row) ≡ Some line.assembly
  pub part_is : number_of names (part row) ≡ Some line.part
  pub units_are : line_units row ≡ Some line.quantity

-- two rows of the same assembly and part
abbrev pub SameEnds : Row → Row → Type 0
SameEnds a b = (assembly a ≡ assembly b) × (part a ≡ part b)

-- the bill that orders and rows state: two names and a quantity in each row, no pair twice, and not too many rows or names
pub record StatesBill (orders : OrdersData) (rows : List Row) (bill : BillData) : Type 0 where
  pub few_lines : length rows ≤ LINES_MAX
  pub names_are : bill.names ≡ with_names orders.names (names_in rows)
  pub each_name : All IsName (names_in rows)
  pub few_names : length bill.names ≤ NAMES_MAX
  pub ordered_are : bill.ordered ≡ orders.ordered ++ replicate (length bill.names - length orders.ordered) 0
  pub lines_are : AllZip (StatesLine bill.names) rows bill.lines
  pub distinct : AllPairs (λ a b. ¬ (SameEnds a b)) rows

-- A bill comes exactly where orders and rows state it.
abbrev pub BillsAreWhole : Type 0
BillsAreWhole = (orders : OrdersData) (rows : List Row) (bill : BillData) → AreOrders orders.names orders.ordered → (bill_of orders rows ≡ Ok bill) ↔ StatesBill orders rows bill

-- a row of a bill has two names and a quantity
pub record IsLineRow (row : Row) : Type 0 where
  pub assembly_name : IsName (assembly row)
  pub part_name : IsName (part row)
  pub units : IsSome (line_units row)

-- what each fault says of the first row of a bill that has one
abbrev pub IsLineFault : OrdersData → List Row → List Row → Row → BillFault → Type 0
IsLineFault orders rows before row (Rows fault) = ⊥
IsLineFault orders rows before row TooManyLines = ⊥
IsLineFault orders rows before row (Name at) = StandsAfter rows before row at × ¬ (IsName (assembly row) × IsName (part row))
IsLineFault orders rows before row (Quantity at) = StandsAfter rows before row at × IsName (assembly row) × IsName (part row) × (line_units row ≡ None)
IsLineFault orders rows before row (TooManyNames at) = StandsAfter rows before row at × IsLineRow row × (NAMES_MAX < length (with_names orders.names (names_in (before ++ row ∷ []))))
IsLineFault orders rows before row (Twice at) = StandsAfter rows before row at × IsLineRow row × Any (SameEnds row) before

-- what each fault says of a bill
abbrev pub IsBillFault : OrdersData → List Row → BillFault → Type 0
IsBillFault orders rows fault = ((fault ≡ TooManyLines) × (LINES_MAX < length rows))
    ⊎ ((length rows ≤ LINES_MAX) × ((before : List Row) × (row : Row) × (bill : BillData) × StatesBill orders before bill × IsLineFault orders rows before row fault))

-- Each fault comes exactly where there are too many rows, or where a row has it after rows that state a bill.
abbrev pub BillFaultsAreFirst : Type 0
BillFaultsAreFirst = (orders : OrdersData) (rows : List Row) (fault : BillFault) → AreOrders orders.names orders.ordered → (bill_of orders rows ≡ Err fault) ↔ IsBillFault orders rows fault

-- Orders without a file of a bill are the bill of no rows.
abbrev pub NoRowsAreNoBill : Type 0
NoRowsAreNoBill = (orders : OrdersData) → AreOrders orders.names orders.ordered → bill_of orders [] ≡ Ok (record { names = orders.names; ordered = orders.ordered; lines = [] })

-- A fault of a file's form comes exactly where its records have it, before all other faults.
abbrev pub FormComesFirst : Type 0
FormComesFirst = (bytes : List ℕ) (fault : RowFault) → ((orders_in bytes ≡ Err (Rows fault)) ↔ (table_of order_columns (records_of bytes) ≡ Err fault))
    × ((orders : OrdersData) → AreOrders orders.names orders.ordered → (bill_in orders bytes ≡ Err (Rows fault)) ↔ (table_of bill_columns (records_of bytes) ≡ Err fault))
