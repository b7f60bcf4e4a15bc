-- What orders and the bytes of a file of a bill stand for: a bill, or the first fault.
use Rattle.std.specs.Prelude.{ℕ, ◌-◌, Bool, not, ◌&&◌, List, [], ◌∷◌, ◌++◌, length, map, replicate, Option, None, is_none, unwrap_or, Result, Err, if◌then◌else◌, nat_lt, codes}
use Rattle.std.specs.List.{list_any, flat_map, position_or_len}
use Rattle.std.specs.Str.{bytes_eq}
use Rattle.tqd_base.specs.declared.limits.TheConstants.{QTY_MAX, NAMES_MAX, LINES_MAX}
use Rattle.money.specs.Number.{qty_of}
use Rattle.bom_reader.specs.Names.{is_name, with_names}
use Rattle.bom_reader.specs.Bill.{OrdersData, BillData}
use Rattle.bom_reader.specs.Faults.{fault_if, first_fault, unless, and_then}
use Rattle.bom_reader.specs.Rows.{Row, field, row_number, rows_in}
use Rattle.bom_reader.specs.declared.line.Line.{Line}
use Rattle.bom_reader.specs.declared.fault.BillFault.{BillFault}
use Rattle.bom_reader.specs.declared.fault.BillFault.TheVariants.{TooManyLines, Name, Quantity, TooManyNames, Twice}

abbrev pub assembly : Row → List ℕ
assembly = field 0

abbrev pub part : Row → List ℕ
part = field 1

-- the units of the part in one unit of the assembly: 1 to 100,000,000
abbrev pub line_units : Row → Option ℕ
line_units row = qty_of 1 QTY_MAX (field 2 row)

abbrev pub ends_of : Row → List (List ℕ)
ends_of row = assembly row ∷ part row ∷ []

-- the names in the rows: in each the assembly before the part
abbrev pub names_in : List Row → List (List ℕ)
names_in rows = flat_map ends_of rows

abbrev pub same_ends : Row → Row → Bool
same_ends a b = bytes_eq (assembly a) (assembly b) && bytes_eq (part a) (part b)

-- the fault of the row with this number, where these rows are before it, and these names in the orders and those rows
abbrev pub line_fault : List (List ℕ) → List Row → ℕ → Row → Option BillFault
line_fault names earlier at row =
    fault_if (not (is_name (assembly row) && is_name (part row))) (Name at)
    (fault_if (is_none (line_units row)) (Quantity at)
    (fault_if (nat_lt NAMES_MAX (length (with_names names (ends_of row)))) (TooManyNames at)
    (fault_if (list_any (same_ends row) earlier) (Twice at) None)))

abbrev pub line_fault_after : List (List ℕ) → List Row → Row → Option BillFault
line_fault_after ordered earlier row = line_fault (with_names ordered (names_in earlier)) earlier (row_number earlier) row

-- the line of a row, its ends by their numbers among the names
abbrev pub line_of : List (List ℕ) → Row → Line
line_of names row = record {
  assembly = position_or_len (bytes_eq (assembly row)) names;
  part = position_or_len (bytes_eq (part row)) names;
  quantity = unwrap_or (line_units row) 0;
}

-- the bill of these rows: the names of the orders come first, then those of the rows in their order
abbrev pub bill_with : OrdersData → List Row → BillData
bill_with orders rows =
    let names = with_names orders.names (names_in rows) in
    record {
      names = names;
      ordered = orders.ordered ++ replicate (length names - length orders.ordered) 0;
      lines = map (line_of names) rows;
    }

-- the bill that orders and the rows after the header stand for, or the fault: too many rows, and then that of the first row with one
abbrev pub bill_of : OrdersData → List Row → Result BillData BillFault
bill_of orders rows = if nat_lt LINES_MAX (length rows) then Err TooManyLines else unless (first_fault (line_fault_after orders.names) [] rows) (bill_with orders rows)

abbrev pub bill_columns : List (List ℕ)
bill_columns = codes "assembly" ∷ codes "part" ∷ codes "quantity" ∷ []

-- the bill of orders and a file
abbrev pub bill_in : OrdersData → List ℕ → Result BillData BillFault
bill_in orders bytes = and_then (bill_of orders) (rows_in bill_columns bytes)
