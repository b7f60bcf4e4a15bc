-- A fault of a file's form comes before all other faults.
use Rattle.std.proofs.Common.{◌≡◌, inl, inr, List, Result, Ok, Err, refl}
use Rattle.std.specs.Prelude.{◌↔◌}
use Rattle.std.specs.Result.{result_map_both}
use Rattle.csv_rows.specs.Rows.{records_of, table_of}
use Rattle.csv_rows.specs.declared.fault.RowFault.{RowFault}
use Rattle.bom_reader.specs.Bill.{AreOrders, OrdersData}
use Rattle.bom_reader.specs.Faults.{and_then}
use Rattle.bom_reader.specs.Laws.{FormComesFirst}
use Rattle.bom_reader.specs.Lines.{bill_columns, bill_of}
use Rattle.bom_reader.specs.Orders.{order_columns, orders_of}
use Rattle.bom_reader.specs.Rows.{Row}
use Rattle.bom_reader.specs.declared.fault.BillFault.{BillFault}
use Rattle.bom_reader.specs.declared.fault.BillFault.TheVariants.{Rows}
use Rattle.bom_reader.proofs.LineFaultLaws.{bill_faults_are_first}
use Rattle.bom_reader.proofs.OrderLaws.{order_faults_are_first}

-- a reader of rows that finds no fault of their form
form : {V : Type 0} (of : List Row → Result V BillFault) → ((rows : List Row) (fault : RowFault) → of rows ≡ Err (Rows fault) → ⊥) → (r : Result (List Row) RowFault) (fault : RowFault)
    → (and_then of (result_map_both (λ (rows : List Row). rows) Rows r) ≡ Err (Rows fault)) ↔ (r ≡ Err fault)
form of never (Ok rows) fault = (λ e. absurd (never rows fault e), λ e. cc e)
form of never (Err found) fault = (λ e. cc e, λ e. let same : found ≡ fault = cc e in rw same refl)

no-form : (rows : List Row) (fault : RowFault) → orders_of rows ≡ Err (Rows fault) → ⊥
no-form rows fault e = let h = (order_faults_are_first rows (Rows fault)).0 e in h.4

no-form-in-lines : (orders : OrdersData) → AreOrders orders.names orders.ordered → (rows : List Row) (fault : RowFault) → bill_of orders rows ≡ Err (Rows fault) → ⊥
no-form-in-lines orders are rows fault e = elim ((bill_faults_are_first orders rows (Rows fault) are).0 e) [
  | inl many ↦ cc many.0
  | inr h ↦ h.1.4
]

pub form_comes_first : FormComesFirst
form_comes_first bytes fault = (form orders_of no-form (table_of order_columns (records_of bytes)) fault, λ orders are. form (bill_of orders) (no-form-in-lines orders are) (table_of bill_columns (records_of bytes)) fault)
