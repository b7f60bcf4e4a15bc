use Rattle.std.proofs.Common.{◌≡◌, List, ℕ, Bor, map, take}
use Rattle.csv.specs.Records.{fields_of}
use Rattle.csv_rows.proofs.reading.has_names.Given as goal

abbrev pub invariant-loop-field : goal.invariant-loop-field
invariant-loop-field l = take l.field (fields_of l.row) ≡ take l.field (map (λ (name : Bor (List ℕ)). name.now) l.names)
