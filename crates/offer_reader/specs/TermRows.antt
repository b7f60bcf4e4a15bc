-- The texts of a row of terms, and the keys that tell rows apart.
use Rattle.std.specs.Prelude.{List, [], ◌∷◌, String}
use Rattle.std.specs.BTreeSet.{insert_key}
use Rattle.std.specs.Cmp.Lexicographic.{slice_cmp}
use Rattle.std.specs.Global.{Global}
use Rattle.std.specs.Ordering.{nat_cmp, ordering_then}
use Rattle.std.specs.declared.cmp.Ordering.{Ordering}
use Rattle.std.specs.String.{string_bytes}
use Rattle.bom_reader.specs.Rows.{Row}
use Rattle.offer_reader.specs.TermForms.{kind, supplier, part}
use Rattle.offer_reader.specs.declared.term_row.TermTexts.{TermTexts}

-- the texts as a row
abbrev pub row_of : TermTexts → Row
row_of texts = texts.kind.now ∷ texts.supplier.now ∷ texts.part.now ∷ texts.low.now ∷ texts.high.now ∷ []

-- the fields of which no two rows have the same
abbrev pub key_of : Row → Row
key_of row = kind row ∷ supplier row ∷ part row ∷ []

abbrev pub key_texts : String Global × String Global × String Global → Row
key_texts key = string_bytes key.0 ∷ string_bytes key.1 ∷ string_bytes key.2 ∷ []

-- the order of keys
abbrev pub key_cmp : Row → Row → Ordering
key_cmp a b = ordering_then (ordering_then (slice_cmp nat_cmp (kind a) (kind b)) (slice_cmp nat_cmp (supplier a) (supplier b)))
    (slice_cmp nat_cmp (part a) (part b))

-- the keys with that of a row, which goes to its place where it is new
abbrev pub with_key : List Row → Row → List Row
with_key keys row = insert_key key_cmp keys (key_of row)
