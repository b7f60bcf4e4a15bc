-- What the bytes of a file of orders stand for: orders, or the first fault.
use Rattle.std.specs.Prelude.{ℕ, not, List, [], ◌∷◌, length, map, Option, None, is_none, unwrap_or, Result, nat_lt, codes}
use Rattle.tqd_base.specs.declared.limits.TheConstants.{QTY_MAX, NAMES_MAX}
use Rattle.money.specs.Number.{qty_of}
use Rattle.bom_reader.specs.Names.{is_name, has_name, with_name}
use Rattle.bom_reader.specs.Bill.{OrdersData}
use Rattle.bom_reader.specs.Faults.{fault_if, first_fault, unless, and_then}
use Rattle.bom_reader.specs.Rows.{Row, field, row_number, rows_in}
use Rattle.bom_reader.specs.declared.fault.BillFault.{BillFault}
use Rattle.bom_reader.specs.declared.fault.BillFault.TheVariants.{Name, Quantity, TooManyNames, Twice}

abbrev pub product : Row → List ℕ
product = field 0

-- the units ordered: 0 to 100,000,000
abbrev pub order_units : Row → Option ℕ
order_units row = qty_of 0 QTY_MAX (field 1 row)

-- the fault of the row with this number, where these names are ordered in the rows before it
abbrev pub order_fault : List (List ℕ) → ℕ → Row → Option BillFault
order_fault names at row =
    fault_if (not (is_name (product row))) (Name at)
    (fault_if (is_none (order_units row)) (Quantity at)
    (fault_if (nat_lt NAMES_MAX (length (with_name names (product row)))) (TooManyNames at)
    (fault_if (has_name names (product row)) (Twice at) None)))

abbrev pub order_fault_after : List Row → Row → Option BillFault
order_fault_after earlier row = order_fault (map product earlier) (row_number earlier) row

-- the orders that the rows after the header stand for, or the fault of the first row with one
abbrev pub orders_of : List Row → Result OrdersData BillFault
orders_of rows = unless (first_fault order_fault_after [] rows) (record {
  names = map product rows;
  ordered = map (λ row. unwrap_or (order_units row) 0) rows;
})

abbrev pub order_columns : List (List ℕ)
order_columns = codes "product" ∷ codes "quantity" ∷ []

-- the orders in a file
abbrev pub orders_in : List ℕ → Result OrdersData BillFault
orders_in bytes = and_then orders_of (rows_in order_columns bytes)
