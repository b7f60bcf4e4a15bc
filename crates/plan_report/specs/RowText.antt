-- What is wrong with the rows of a file.
use Rattle.std.specs.Prelude.{ℕ, ◌++◌, codes, decimal}
use Rattle.tqd_base.specs.World.{Bytes}
use Rattle.csv_rows.specs.declared.fault.RowFault.{RowFault}
use Rattle.csv_rows.specs.declared.fault.RowFault.TheVariants.{Empty, Header, Width, Text}

-- what is wrong with a row; the header is row 1
abbrev pub in_row : ℕ → Bytes → Bytes
in_row at cause = codes "row " ++ decimal at ++ codes ": " ++ cause

-- the file is not rows of texts under its header
abbrev pub rows_cause : RowFault → Bytes
rows_cause Empty = codes "no header"
rows_cause Header = codes "wrong header"
rows_cause (Width at found) = in_row at (decimal found ++ codes " fields")
rows_cause (Text at field) = in_row at (codes "field " ++ decimal field ++ codes " is not UTF-8")
