-- What the bytes of a file of rows under a header stand for: a table, or the first fault.
use Rattle.std.specs.Prelude.{◌≡◌, ⊤, ℕ, zero, suc, ◌+◌, List, [], ◌∷◌, length, take, drop}
use Rattle.std.specs.Prelude.{Option, None, Some, Result, Ok, Err, if◌then◌else◌, ◌==◌}
use Rattle.std.specs.Cmp.Lexicographic.{pointwise}
use Rattle.std.specs.List.{slice_split}
use Rattle.std.specs.Option.{option_or}
use Rattle.std.specs.Str.{is_utf8, bytes_eq}
use Rattle.csv.specs.Reading.{default_config, records, strip_bom}
use Rattle.tqd_base.specs.declared.memory.Stop.{Stop}
use Rattle.tqd_base.specs.declared.memory.Stop.TheVariants.{Refused, Memory}
use Rattle.csv_rows.specs.declared.fault.RowFault.{RowFault}
use Rattle.csv_rows.specs.declared.fault.RowFault.TheVariants.{Empty, Header, Width, Text}

-- the records of the bytes without one UTF-8 mark at their start; `csv` drops one more
abbrev pub records_of : List ℕ → List (List (List ℕ))
records_of bytes = records default_config (strip_bom (strip_bom bytes))

-- the names of the columns, which stand with one comma (44) between two of them
abbrev pub names_of : List ℕ → List (List ℕ)
names_of header = slice_split (λ byte. byte == 44) header

-- the first of the fields that is not UTF-8, where they are numbered on from `field`
abbrev pub text_fault : ℕ → ℕ → List (List ℕ) → Option RowFault
text_fault at field [] = None
text_fault at field (first ∷ others) = if is_utf8 first then text_fault at (field + 1) others else Some (Text at field)

-- the fault of a row: its width, and then its texts
abbrev pub row_fault : ℕ → ℕ → List (List ℕ) → Option RowFault
row_fault width at fields = if length fields == width then text_fault at 1 fields else Some (Width at (length fields))

-- the first fault of rows that are numbered on from `at`
abbrev pub rows_fault : ℕ → ℕ → List (List (List ℕ)) → Option RowFault
rows_fault width at [] = None
rows_fault width at (row ∷ others) = option_or (row_fault width at row) (rows_fault width (at + 1) others)

-- the value, where there is no fault
abbrev pub unless : {V : Type 0} → Option RowFault → V → Result V RowFault
unless None value = Ok value
unless (Some fault) value = Err fault

-- the rows after the header, which is row 1 and has these names
abbrev pub table_of : List (List ℕ) → List (List (List ℕ)) → Result (List (List (List ℕ))) RowFault
table_of names [] = Err Empty
table_of names (first ∷ others) = if pointwise bytes_eq first names then unless (rows_fault (length names) 2 others) others else Err Header

-- a list of fields as so many rows of one width
abbrev pub rows_of : ℕ → ℕ → List (List ℕ) → List (List (List ℕ))
rows_of width zero fields = []
rows_of width (suc count) fields = take width fields ∷ rows_of width count (drop width fields)

-- a call answered this outcome, where its value is seen by `view`, or memory was wanting
abbrev pub AnswersBy : {X V : Type 0} → (X → V) → Result X (Stop RowFault) → Result V RowFault → Type 0
AnswersBy view (Ok value) outcome = outcome ≡ Ok (view value)
AnswersBy view (Err (Refused fault)) outcome = outcome ≡ Err fault
AnswersBy view (Err Memory) outcome = ⊤

abbrev pub Answers : {V : Type 0} → Result V (Stop RowFault) → Result V RowFault → Type 0
Answers result outcome = AnswersBy (λ value. value) result outcome
