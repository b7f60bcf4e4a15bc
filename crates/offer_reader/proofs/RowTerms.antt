-- What a term says of the row that states it.
use Rattle.std.proofs.Common.{ℕ, ◌≡◌, ◌≤◌, Bool, true, false, not, cond, List, [], ◌∷◌, length, find, Option, None, Some, refl, sym, ◌∙◌, subst, arith, unwrap_or, option_map, position}
use Rattle.std.proofs.lemmas.Bool.{eqb-true, not-false}
use Rattle.std.proofs.lemmas.Option.{none-some, option_and_then_some}
use Rattle.std.specs.Prelude.{if◌then◌else◌}
use Rattle.std.specs.Cmp.Lexicographic.{bytes_decides}
use Rattle.std.specs.Str.{bytes_eq}
use Rattle.tqd_base.specs.declared.limits.TheConstants.{QTY_MAX, PRICE_MAX, SUPPLIERS_MAX}
use Rattle.money.specs.Number.{qty_of, within}
use Rattle.money.specs.Price.{is_point, millionths_at, price_of}
use Rattle.money.proofs.Quantities.{within-from}
use Rattle.tqd_instance.specs.Parts.{WHOLE, IsAtMost, IsOver}
use Rattle.tqd_instance.specs.declared.parts.StockRow.{StockRow}
use Rattle.tqd_instance.specs.declared.parts.Over.TheVariants.{Percent, Any as AnyAmount}
use Rattle.tqd_instance.specs.declared.parts.OverRow.{OverRow}
use Rattle.bom_reader.specs.Names.{number_of}
use Rattle.bom_reader.specs.Rows.{Row}
use Rattle.bom_reader.proofs.FirstFault.{fault_if-none}
use Rattle.bom_reader.proofs.Units.{qty_of-within}
use Rattle.offer_reader.specs.Offers.{Wanted, good_of}
use Rattle.offer_reader.specs.TermForms.{PERCENT_MAX, kind, supplier, part, low, high, kind_name, kind_of, forms_of, bad_field, allows, is_any, is_empty}
use Rattle.offer_reader.specs.TermSteps.{IsFormed}
use Rattle.offer_reader.specs.Terms.{number_or, over_good, over_in, term_by}
use Rattle.offer_reader.specs.declared.form.RowForms.{RowForms}
use Rattle.offer_reader.specs.declared.kind.TermKind.{TermKind}
use Rattle.offer_reader.specs.declared.kind.TermKind.TheVariants as of_kind
use Rattle.offer_reader.specs.declared.term.Term.{Term}
use Rattle.offer_reader.specs.declared.term.Term.TheVariants as term

-- a row of a kind on a supplier that offers goods, and on no part
pub record IsOfSupplier (suppliers : List (List ℕ)) (row : Row) (k : TermKind) (i : ℕ) : Type 0 where
  pub kind_is : kind_of (kind row) ≡ Some k
  pub supplier_is : number_of suppliers (supplier row) ≡ Some i
  pub no_part : part row ≡ []

pub record SaysStock (wanted : Wanted) (suppliers : List (List ℕ)) (row : Row) (r : StockRow) : Type 0 where
  pub kind_is : kind_of (kind row) ≡ Some of_kind.Stock
  pub supplier_is : number_of suppliers (supplier row) ≡ Some r.supplier
  pub good_is : good_of wanted (part row) ≡ Some r.good
  pub units : r.units ≤ QTY_MAX

pub record SaysOver (wanted : Wanted) (row : Row) (r : OverRow) : Type 0 where
  pub kind_is : kind_of (kind row) ≡ Some of_kind.Over
  pub no_supplier : supplier row ≡ []
  pub good_is : over_good wanted (part row) ≡ Some r.good
  pub over : IsOver r.over

abbrev pub Says : Wanted → List (List ℕ) → Row → Term → Type 0
Says wanted suppliers row (term.Stock r) = SaysStock wanted suppliers row r
Says wanted suppliers row (term.Total r) = IsOfSupplier suppliers row of_kind.Total r.supplier × (r.units ≤ QTY_MAX)
Says wanted suppliers row (term.Share r) = IsOfSupplier suppliers row of_kind.Share r.supplier × (r.low ≤ WHOLE) × IsAtMost WHOLE r.high
Says wanted suppliers row (term.Fee r) = IsOfSupplier suppliers row of_kind.Fee r.supplier × (r.fee ≤ PRICE_MAX)
Says wanted suppliers row (term.Winners least most) = (least ≤ SUPPLIERS_MAX) × (most ≤ SUPPLIERS_MAX)
Says wanted suppliers row (term.Over r) = SaysOver wanted row r

-- numbers are in their ranges
number_small : (default most : ℕ) (text : List ℕ) → default ≤ most → number_or default most text ≤ most
number_small default most text small = go (qty_of 0 most text) refl where
  go : (o : Option ℕ) → qty_of 0 most text ≡ o → unwrap_or o default ≤ most
  go None is = small
  go (Some n) is = (qty_of-within 0 most text n is).1

quantity_small : (most : ℕ) (text : List ℕ) → IsAtMost most (qty_of 0 most text)
quantity_small most text = go (qty_of 0 most text) refl where
  go : (o : Option ℕ) → qty_of 0 most text ≡ o → IsAtMost most o
  go None is = tt
  go (Some n) is = (qty_of-within 0 most text n is).1

pub price_small : (text : List ℕ) (units : ℕ) → price_of text ≡ Some units → units ≤ PRICE_MAX
price_small text units e = option_and_then_some (within 0 PRICE_MAX) (millionths_at text (position is_point text)) units e (λ m found is. (within-from 0 PRICE_MAX m units is).1)

fee_small : (text : List ℕ) → unwrap_or (price_of text) 0 ≤ PRICE_MAX
fee_small text = go (price_of text) refl where
  go : (o : Option ℕ) → price_of text ≡ o → unwrap_or o 0 ≤ PRICE_MAX
  go None is = omega arith
  go (Some units) is = price_small text units is

over_small : (text : List ℕ) → IsOver (over_in text)
over_small text = go (is_any text) where
  go : (b : Bool) → IsOver (if b then AnyAmount else Percent (number_or 0 PERCENT_MAX text))
  go true = tt
  go false = number_small 0 PERCENT_MAX text (omega arith)

-- fields that are of their forms
pub empty_is : (text : List ℕ) → is_empty text ≡ true → text ≡ []
empty_is [] e = refl
empty_is (byte ∷ text) e = let none : length (byte ∷ text) ≡ 0 = eqb-true (length (byte ∷ text)) 0 e in absurd (omega (arith, none))

pub record Fits (forms : RowForms) (row : Row) : Type 0 where
  pub supplier_fits : allows forms.supplier (supplier row) ≡ true
  pub part_fits : allows forms.part (part row) ≡ true

fits : (forms : RowForms) (row : Row) → bad_field forms row ≡ None → Fits forms row
fits forms row none =
    let first = fault_if-none (not (allows forms.supplier (supplier row))) 2 _ none in
    let second = fault_if-none (not (allows forms.part (part row))) 3 _ first.1 in
    record { supplier_fits = not-false _ first.0; part_fits = not-false _ second.0 }

-- the value of a mapped option
pub map_some : {X Y P : Type 0} (f : X → Y) (o : Option X) (y : Y) → option_map f o ≡ Some y → ((x : X) → o ≡ Some x → f x ≡ y → P) → P
map_some f None y e step = absurd (none-some y e)
map_some f (Some x) y e step = step x refl (cc e)

of_supplier : (suppliers : List (List ℕ)) (row : Row) (k : TermKind) (i : ℕ) → IsFormed row k → number_of suppliers (supplier row) ≡ Some i → is_empty (part row) ≡ true → IsOfSupplier suppliers row k i
of_supplier suppliers row k i formed named empty = record { kind_is = formed.kind_is; supplier_is = named; no_part = empty_is (part row) empty }

pub says : (wanted : Wanted) (suppliers : List (List ℕ)) (row : Row) (k : TermKind) (t : Term) → IsFormed row k → term_by wanted suppliers k row ≡ Some t → Says wanted suppliers row t
says wanted suppliers row of_kind.Stock t formed e =
    option_and_then_some (λ i. option_map (λ good. term.Stock (record { supplier = i; good = good; units = number_or 0 QTY_MAX (high row) })) (good_of wanted (part row))) (number_of suppliers (supplier row)) t e
    (λ i named inner. map_some (λ good. term.Stock (record { supplier = i; good = good; units = number_or 0 QTY_MAX (high row) })) (good_of wanted (part row)) t inner
    (λ good placed is. subst (Says wanted suppliers row) is (record { kind_is = formed.kind_is; supplier_is = named; good_is = placed; units = number_small 0 QTY_MAX (high row) (omega arith) })))
says wanted suppliers row of_kind.Total t formed e =
    map_some (λ i. term.Total (record { supplier = i; units = number_or 0 QTY_MAX (high row) })) (number_of suppliers (supplier row)) t e
    (λ i named is. subst (Says wanted suppliers row) is (of_supplier suppliers row of_kind.Total i formed named (fits (forms_of of_kind.Total) row formed.forms).part_fits, number_small 0 QTY_MAX (high row) (omega arith)))
says wanted suppliers row of_kind.Share t formed e =
    map_some (λ i. term.Share (record { supplier = i; low = number_or 0 WHOLE (low row); high = qty_of 0 WHOLE (high row) })) (number_of suppliers (supplier row)) t e
    (λ i named is. subst (Says wanted suppliers row) is (of_supplier suppliers row of_kind.Share i formed named (fits (forms_of of_kind.Share) row formed.forms).part_fits, number_small 0 WHOLE (low row) (omega arith), quantity_small WHOLE (high row)))
says wanted suppliers row of_kind.Fee t formed e =
    map_some (λ i. term.Fee (record { supplier = i; fee = unwrap_or (price_of (high row)) 0 })) (number_of suppliers (supplier row)) t e
    (λ i named is. subst (Says wanted suppliers row) is (of_supplier suppliers row of_kind.Fee i formed named (fits (forms_of of_kind.Fee) row formed.forms).part_fits, fee_small (high row)))
says wanted suppliers row of_kind.Winners t formed e =
    map_some (λ (u : Unit {0}). term.Winners (number_or 0 SUPPLIERS_MAX (low row)) (number_or SUPPLIERS_MAX SUPPLIERS_MAX (high row))) (Some tt) t e
    (λ u named is. subst (Says wanted suppliers row) is (number_small 0 SUPPLIERS_MAX (low row) (omega arith), number_small SUPPLIERS_MAX SUPPLIERS_MAX (high row) (omega arith)))
says wanted suppliers row of_kind.Over t formed e =
    map_some (λ good. term.Over (record { good = good; over = over_in (high row) })) (over_good wanted (part row)) t e
    (λ good placed is. subst (Says wanted suppliers row) is (record {
      kind_is = formed.kind_is;
      no_supplier = empty_is (supplier row) (fits (forms_of of_kind.Over) row formed.forms).supplier_fits;
      good_is = placed;
      over = over_small (high row);
    }))

-- one text names each kind
passes_first : {X : Type 0} (p : X → Bool) (y x : X) (o : Option X) (b : Bool) → p y ≡ b → cond b (Some y) o ≡ Some x → (o ≡ Some x → p x ≡ true) → p x ≡ true
passes_first {X} p y x o true is e later = let same : y ≡ x = cc e in subst (λ (z : X). p z ≡ true) same is
passes_first p y x o false is e later = later e

find_passes : {X : Type 0} (p : X → Bool) (xs : List X) (x : X) → find p xs ≡ Some x → p x ≡ true
find_passes p [] x e = absurd (none-some x e)
find_passes p (y ∷ xs) x e = passes_first p y x (find p xs) (p y) refl e (find_passes p xs x)

kind_text : (text : List ℕ) (k : TermKind) → kind_of text ≡ Some k → text ≡ kind_name k
kind_text text k e = (bytes_decides text (kind_name k)).0 (find_passes (λ k. bytes_eq text (kind_name k)) (of_kind.Stock ∷ of_kind.Total ∷ of_kind.Share ∷ of_kind.Fee ∷ of_kind.Winners ∷ of_kind.Over ∷ []) k e)

pub kind_one : (a b : Row) (k : TermKind) → kind_of (kind a) ≡ Some k → kind_of (kind b) ≡ Some k → kind b ≡ kind a
kind_one a b k of_a of_b = kind_text (kind b) k of_b ∙ sym (kind_text (kind a) k of_a)
