-- The kinds of terms, and the forms of the fields in a row of each kind.
use Rattle.std.specs.Prelude.{ℕ, ◌==◌, ◌||◌, not, Bool, List, [], ◌∷◌, length, find, Option, None, is_some, codes}
use Rattle.std.specs.Str.{bytes_eq}
use Rattle.tqd_base.specs.declared.limits.TheConstants.{QTY_MAX, SUPPLIERS_MAX}
use Rattle.tqd_instance.specs.Parts.{WHOLE}
use Rattle.money.specs.Number.{qty_of}
use Rattle.money.specs.Price.{price_of}
use Rattle.bom_reader.specs.Names.{is_name}
use Rattle.bom_reader.specs.Faults.{fault_if}
use Rattle.bom_reader.specs.Rows.{Row, field}
use Rattle.offer_reader.specs.declared.form.FieldForm.{FieldForm}
use Rattle.offer_reader.specs.declared.form.FieldForm.TheVariants as form
use Rattle.offer_reader.specs.declared.form.RowForms.{RowForms}
use Rattle.offer_reader.specs.declared.kind.TermKind.{TermKind}
use Rattle.offer_reader.specs.declared.kind.TermKind.TheVariants.{Stock, Total, Share, Fee, Winners, Over}

-- the fields of a row of terms
abbrev pub kind : Row → List ℕ
kind = field 0

abbrev pub supplier : Row → List ℕ
supplier = field 1

abbrev pub part : Row → List ℕ
part = field 2

abbrev pub low : Row → List ℕ
low = field 3

abbrev pub high : Row → List ℕ
high = field 4

-- the greatest percentage above the need
abbrev pub PERCENT_MAX : ℕ
PERCENT_MAX = 1000

abbrev pub kind_name : TermKind → List ℕ
kind_name Stock = codes "stock"
kind_name Total = codes "total"
kind_name Share = codes "share"
kind_name Fee = codes "fee"
kind_name Winners = codes "winners"
kind_name Over = codes "over"

-- the kind with this name
abbrev pub kind_of : List ℕ → Option TermKind
kind_of text = find (λ k. bytes_eq text (kind_name k)) (Stock ∷ Total ∷ Share ∷ Fee ∷ Winners ∷ Over ∷ [])

abbrev pub is_empty : List ℕ → Bool
is_empty text = length text == 0

-- no bound above the need
abbrev pub is_any : List ℕ → Bool
is_any text = bytes_eq text (codes "any")

-- whether a text is of a form
abbrev pub allows : FieldForm → List ℕ → Bool
allows form.Empty text = is_empty text
allows form.Name text = is_name text
allows form.NameOrEmpty text = is_empty text || is_name text
allows form.Units text = is_some (qty_of 0 QTY_MAX text)
allows (form.UpTo most) text = is_empty text || is_some (qty_of 0 most text)
allows form.Price text = is_some (price_of text)
allows form.Over text = is_any text || is_some (qty_of 0 PERCENT_MAX text)

-- the forms of supplier, part, low and high in a row of a kind
abbrev pub forms_of : TermKind → RowForms
forms_of Stock = record { supplier = form.Name; part = form.Name; low = form.Empty; high = form.Units }
forms_of Total = record { supplier = form.Name; part = form.Empty; low = form.Empty; high = form.Units }
forms_of Share = record { supplier = form.Name; part = form.Empty; low = form.UpTo WHOLE; high = form.UpTo WHOLE }
forms_of Fee = record { supplier = form.Name; part = form.Empty; low = form.Empty; high = form.Price }
forms_of Winners =
    record { supplier = form.Empty; part = form.Empty; low = form.UpTo SUPPLIERS_MAX; high = form.UpTo SUPPLIERS_MAX }
forms_of Over = record { supplier = form.Empty; part = form.NameOrEmpty; low = form.Empty; high = form.Over }

-- the number of the first field that is not of its form; fields count from 1, and the kind is the first
abbrev pub bad_field : RowForms → Row → Option ℕ
bad_field forms row =
    fault_if (not (allows forms.supplier (supplier row))) 2
    (fault_if (not (allows forms.part (part row))) 3
    (fault_if (not (allows forms.low (low row))) 4
    (fault_if (not (allows forms.high (high row))) 5 None)))
