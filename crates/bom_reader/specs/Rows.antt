-- Rows of a file of orders or of a bill. A row is the list of its fields.
use Rattle.std.specs.Prelude.{ℕ, ◌+◌, List, [], length, slice_index_or, Result}
use Rattle.std.specs.Result.{result_map_both}
use Rattle.csv_rows.specs.Rows.{records_of, table_of}
use Rattle.bom_reader.specs.declared.fault.BillFault.{BillFault}
use Rattle.bom_reader.specs.declared.fault.BillFault.TheVariants.{Rows}

abbrev pub Row : Type 0
Row = List (List ℕ)

-- the field of a row at this place, from 0
abbrev pub field : ℕ → Row → List ℕ
field place row = slice_index_or row place []

-- the number of the row after these: the header is row 1
abbrev pub row_number : List Row → ℕ
row_number earlier = length earlier + 2

-- the rows after the header of a file under these columns; a fault of its form comes before all others
abbrev pub rows_in : List (List ℕ) → List ℕ → Result (List Row) BillFault
rows_in columns bytes = result_map_both (λ rows. rows) Rows (table_of columns (records_of bytes))
