-- What the tests of a row of terms say: its kind, the forms of its fields, and its names.
use Rattle.std.proofs.Common.{◌≡◌, ℕ, Bool, true, false, cond, not, ◌||◌, List, [], ◌∷◌, length, None, Some, is_some, refl, sym, ap, ◌∙◌, ◌⊎◌, inl, inr, arith}
use Rattle.std.proofs.lemmas.Bool.{eqb-true, false≢true, not-false, not-true, or_cases, or_left, or_right}
use Rattle.std.proofs.lemmas.Option.{none-some, same_Some}
use Rattle.std.specs.Cmp.Lexicographic.{bytes_decides}
use Rattle.std.specs.Prelude.{codes, find}
use Rattle.std.specs.Str.{bytes_eq}
use Rattle.money.specs.Number.{qty_of}
use Rattle.bom_reader.specs.Names.{has_name, is_name}
use Rattle.bom_reader.specs.Rows.{Row}
use Rattle.bom_reader.proofs.FirstFault.{fault_if-none, fault_if-some}
use Rattle.bom_reader.proofs.NameLaws.{has-from, has-to, name-from, name-to}
use Rattle.offer_reader.specs.Book.{BookData}
use Rattle.offer_reader.specs.Offers.{Wanted}
use Rattle.offer_reader.specs.TermForms.{PERCENT_MAX, allows, bad_field, high, is_any, is_empty, kind_name, kind_of, low, part, supplier}
use Rattle.offer_reader.specs.TermLaws.{HasForm, HasForms, IsBadField, IsKnownPart, IsKnownSupplier}
use Rattle.offer_reader.specs.Terms.{knows_part, knows_supplier}
use Rattle.offer_reader.specs.declared.form.FieldForm.{FieldForm}
use Rattle.offer_reader.specs.declared.form.FieldForm.TheVariants as form
use Rattle.offer_reader.specs.declared.form.RowForms.{RowForms}
use Rattle.offer_reader.specs.declared.kind.TermKind.{TermKind}
use Rattle.offer_reader.specs.declared.kind.TermKind.TheVariants as of_kind

-- a test decides what it says
pub false-from : {P : Type 0} (b : Bool) → (b ≡ true → P) → ¬ P → b ≡ false
false-from true holds other = absurd (other (holds refl))
false-from false holds other = refl

pub false-to : {P : Type 0} (b : Bool) → (P → b ≡ true) → b ≡ false → ¬ P
false-to b holds is p = false≢true (sym is ∙ holds p)

-- the kind with a name
found : {X : Type 0} (p : X → Bool) (xs : List X) (x : X) → find p xs ≡ Some x → p x ≡ true
found p [] x e = absurd (none-some x e)
found p (y ∷ xs) x e = go (p y) refl e (found p xs x) where
  go : (b : Bool) → p y ≡ b → cond b (Some y) (find p xs) ≡ Some x → (find p xs ≡ Some x → p x ≡ true) → p x ≡ true
  go true is f rest = rw (← same_Some y x f) is
  go false is f rest = rest f

pub kind-to : (text : List ℕ) (k : TermKind) → kind_of text ≡ Some k → text ≡ kind_name k
kind-to text k e = (bytes_decides text (kind_name k)).0 (found (λ other. bytes_eq text (kind_name other)) (of_kind.Stock ∷ of_kind.Total ∷ of_kind.Share ∷ of_kind.Fee ∷ of_kind.Winners ∷ of_kind.Over ∷ []) k e)

kind-named : (k : TermKind) → kind_of (kind_name k) ≡ Some k
kind-named of_kind.Stock = refl
kind-named of_kind.Total = refl
kind-named of_kind.Share = refl
kind-named of_kind.Fee = refl
kind-named of_kind.Winners = refl
kind-named of_kind.Over = refl

pub kind-from : (text : List ℕ) (k : TermKind) → text ≡ kind_name k → kind_of text ≡ Some k
kind-from text k e = ap kind_of e ∙ kind-named k

-- no text, and no bound
pub empty-to : (text : List ℕ) → is_empty text ≡ true → text ≡ []
empty-to [] e = refl
empty-to (byte ∷ text) e = absurd (omega (arith, eqb-true (length (byte ∷ text)) 0 e))

pub empty-from : (text : List ℕ) → text ≡ [] → is_empty text ≡ true
empty-from text e = rw e refl

pub any-to : (text : List ℕ) → is_any text ≡ true → text ≡ codes "any"
any-to text e = (bytes_decides text (codes "any")).0 e

pub any-from : (text : List ℕ) → text ≡ codes "any" → is_any text ≡ true
any-from text e = (bytes_decides text (codes "any")).1 e

-- the form of a field
either-to : {P Q : Type 0} (a b : Bool) → (a ≡ true → P) → (b ≡ true → Q) → (a || b) ≡ true → P ⊎ Q
either-to a b first second e = elim (or_cases a b e) [
  | inl left ↦ inl (first left)
  | inr right ↦ inr (second right)
]

either-from : {P Q : Type 0} (a b : Bool) → (P → a ≡ true) → (Q → b ≡ true) → P ⊎ Q → (a || b) ≡ true
either-from a b first second (inl p) = or_left a b (first p)
either-from a b first second (inr q) = or_right a b (second q)

pub form-to : (f : FieldForm) (text : List ℕ) → allows f text ≡ true → HasForm f text
form-to form.Empty text e = empty-to text e
form-to form.Name text e = name-to text e
form-to form.NameOrEmpty text e = either-to (is_empty text) (is_name text) (empty-to text) (name-to text) e
form-to form.Units text e = e
form-to (form.UpTo most) text e = either-to (is_empty text) (is_some (qty_of 0 most text)) (empty-to text) (λ some. some) e
form-to form.Price text e = e
form-to form.Over text e = either-to (is_any text) (is_some (qty_of 0 PERCENT_MAX text)) (any-to text) (λ some. some) e

pub form-from : (f : FieldForm) (text : List ℕ) → HasForm f text → allows f text ≡ true
form-from form.Empty text h = empty-from text h
form-from form.Name text h = name-from text h
form-from form.NameOrEmpty text h = either-from (is_empty text) (is_name text) (empty-from text) (name-from text) h
form-from form.Units text h = h
form-from (form.UpTo most) text h = either-from (is_empty text) (is_some (qty_of 0 most text)) (empty-from text) (λ some. some) h
form-from form.Price text h = h
form-from form.Over text h = either-from (is_any text) (is_some (qty_of 0 PERCENT_MAX text)) (any-from text) (λ some. some) h

no-form-to : (f : FieldForm) (text : List ℕ) → not (allows f text) ≡ true → ¬ (HasForm f text)
no-form-to f text e = false-to (allows f text) (form-from f text) (not-true (allows f text) e)

no-form-from : (f : FieldForm) (text : List ℕ) → ¬ (HasForm f text) → allows f text ≡ false
no-form-from f text other = false-from (allows f text) (form-to f text) other

formed : (f : FieldForm) (text : List ℕ) → not (allows f text) ≡ false → HasForm f text
formed f text e = form-to f text (not-false (allows f text) e)

-- the forms of a row
pub forms-to : (forms : RowForms) (row : Row) → bad_field forms row ≡ None → HasForms forms row
forms-to forms row e =
    let a = fault_if-none (not (allows forms.supplier (supplier row))) 2 _ e in
    let b = fault_if-none (not (allows forms.part (part row))) 3 _ a.1 in
    let c = fault_if-none (not (allows forms.low (low row))) 4 _ b.1 in
    let d = fault_if-none (not (allows forms.high (high row))) 5 None c.1 in
    record {
      supplier_form = formed forms.supplier (supplier row) a.0;
      part_form = formed forms.part (part row) b.0;
      low_form = formed forms.low (low row) c.0;
      high_form = formed forms.high (high row) d.0;
    }

pub forms-from : (forms : RowForms) (row : Row) → HasForms forms row → bad_field forms row ≡ None
forms-from forms row h =
    rw (form-from forms.supplier (supplier row) h.supplier_form, form-from forms.part (part row) h.part_form, form-from forms.low (low row) h.low_form, form-from forms.high (high row) h.high_form) refl

pub bad-to : (forms : RowForms) (row : Row) (number : ℕ) → bad_field forms row ≡ Some number → IsBadField forms row number
bad-to forms row number e =
    elim (fault_if-some (not (allows forms.supplier (supplier row))) 2 number _ e) [
      | inl bad ↦ inl (bad.1, no-form-to forms.supplier (supplier row) bad.0)
      | inr a ↦ let first = formed forms.supplier (supplier row) a.0 in elim (fault_if-some (not (allows forms.part (part row))) 3 number _ a.1) [
        | inl bad ↦ inr (inl (bad.1, first, no-form-to forms.part (part row) bad.0))
        | inr b ↦ let second = formed forms.part (part row) b.0 in elim (fault_if-some (not (allows forms.low (low row))) 4 number _ b.1) [
          | inl bad ↦ inr (inr (inl (bad.1, first, second, no-form-to forms.low (low row) bad.0)))
          | inr c ↦ elim (fault_if-some (not (allows forms.high (high row))) 5 number None c.1) [
            | inl bad ↦ inr (inr (inr (bad.1, first, second, formed forms.low (low row) c.0, no-form-to forms.high (high row) bad.0)))
            | inr nothing ↦ absurd (none-some number nothing.1)
          ]
        ]
      ]
    ]

pub bad-from : (forms : RowForms) (row : Row) (number : ℕ) → IsBadField forms row number → bad_field forms row ≡ Some number
bad-from forms row number (inl bad) = rw (no-form-from forms.supplier (supplier row) bad.1, bad.0) refl
bad-from forms row number (inr (inl bad)) = rw (form-from forms.supplier (supplier row) bad.1, no-form-from forms.part (part row) bad.2, bad.0) refl
bad-from forms row number (inr (inr (inl bad))) =
    rw (form-from forms.supplier (supplier row) bad.1, form-from forms.part (part row) bad.2, no-form-from forms.low (low row) bad.3, bad.0) refl
bad-from forms row number (inr (inr (inr bad))) =
    rw (form-from forms.supplier (supplier row) bad.1, form-from forms.part (part row) bad.2, form-from forms.low (low row) bad.3, no-form-from forms.high (high row) bad.4, bad.0) refl

-- known names
pub supplier-to : (book : BookData) (row : Row) → knows_supplier book (supplier row) ≡ true → IsKnownSupplier book row
supplier-to book row e = either-to (is_empty (supplier row)) (has_name book.sellers (supplier row)) (empty-to (supplier row)) (has-to book.sellers (supplier row)) e

pub supplier-from : (book : BookData) (row : Row) → IsKnownSupplier book row → knows_supplier book (supplier row) ≡ true
supplier-from book row h = either-from (is_empty (supplier row)) (has_name book.sellers (supplier row)) (empty-from (supplier row)) (has-from book.sellers (supplier row)) h

or-split : (a b c : Bool) → ((a || b) || c) ≡ (a || (b || c))
or-split true b c = refl
or-split false b c = refl

pub part-to : (wanted : Wanted) (book : BookData) (row : Row) → knows_part wanted.names book (part row) ≡ true → IsKnownPart wanted book row
part-to wanted book row e =
    let name = part row in
    let split = or-split (is_empty name) (has_name wanted.names name) (has_name book.offered name) in
    either-to (is_empty name) (has_name wanted.names name || has_name book.offered name) (empty-to name)
    (either-to (has_name wanted.names name) (has_name book.offered name) (has-to wanted.names name) (has-to book.offered name)) (sym split ∙ e)

pub part-from : (wanted : Wanted) (book : BookData) (row : Row) → IsKnownPart wanted book row → knows_part wanted.names book (part row) ≡ true
part-from wanted book row h =
    let name = part row in
    or-split (is_empty name) (has_name wanted.names name) (has_name book.offered name)
    ∙ either-from (is_empty name) (has_name wanted.names name || has_name book.offered name) (empty-from name)
    (either-from (has_name wanted.names name) (has_name book.offered name) (has-from wanted.names name) (has-from book.offered name)) h
