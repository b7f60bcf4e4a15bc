-- When a table comes, and when each fault. The contracts of `laws` state it.
use Rattle.std.specs.Prelude.{◌≡◌, ◌≢◌, ◌↔◌, ℕ, ◌+◌, List, [], ◌∷◌, ◌++◌, length, All, IsUtf8, Ok, Err}
use Rattle.csv_rows.specs.Rows.{table_of}
use Rattle.csv_rows.specs.declared.fault.RowFault.{RowFault}
use Rattle.csv_rows.specs.declared.fault.RowFault.TheVariants.{Empty, Header, Width, Text}

-- a row without fault has this width, and each field is UTF-8
abbrev pub IsRow : ℕ → List (List ℕ) → Type 0
IsRow width row = (length row ≡ width) × All IsUtf8 row

-- A table comes exactly where the records are the names and then rows without fault, and it has those rows.
abbrev pub TablesAreWhole : Type 0
TablesAreWhole = (names : List (List ℕ)) (all rows : List (List (List ℕ)))
    → (table_of names all ≡ Ok rows) ↔ ((all ≡ names ∷ rows) × All (IsRow (length names)) rows)

-- after the names, rows without fault come before this row
pub record ComesFirst (names : List (List ℕ)) (all : List (List (List ℕ))) (at : ℕ) (row : List (List ℕ)) : Type 0 where
  pub before : List (List (List ℕ))
  pub after : List (List (List ℕ))
  pub all_are : all ≡ names ∷ (before ++ row ∷ after)
  pub sound : All (IsRow (length names)) before
  pub number : at ≡ length before + 2

-- fields that are UTF-8 come before one that is not
pub record HasBadField (row : List (List ℕ)) (field : ℕ) : Type 0 where
  pub before : List (List ℕ)
  pub bad : List ℕ
  pub after : List (List ℕ)
  pub row_is : row ≡ before ++ bad ∷ after
  pub sound : All IsUtf8 before
  pub not_text : ¬ (IsUtf8 bad)
  pub number : field ≡ length before + 1

-- what each fault says of the records
abbrev pub IsFault : List (List ℕ) → List (List (List ℕ)) → RowFault → Type 0
IsFault names all Empty = all ≡ []
IsFault names all Header = (first : List (List ℕ)) × (others : List (List (List ℕ))) × (all ≡ first ∷ others) × (first ≢ names)
IsFault names all (Width at found) = (row : List (List ℕ)) × ComesFirst names all at row × (found ≡ length row) × (found ≢ length names)
IsFault names all (Text at field) = (row : List (List ℕ)) × ComesFirst names all at row × (length row ≡ length names) × HasBadField row field

-- Each fault comes exactly where the records have it, at the first row with a fault.
abbrev pub FaultsAreFirst : Type 0
FaultsAreFirst = (names : List (List ℕ)) (all : List (List (List ℕ))) (fault : RowFault) → (table_of names all ≡ Err fault) ↔ IsFault names all fault
