-- What stays of a mixture when one of its columns is another.
use Rattle.std.proofs.Common.{ℕ, ◌≡◌, ◌<◌, ◌≤◌, List, [], length, get_or, set, arith, ap, ◌∙◌, sym, subst, ◌≢◌, ⊎_elim}
use Rattle.std.proofs.lemmas.Bool.{cases_eq}
use Rattle.std.proofs.lemmas.Grind.{common_steps}
use Rattle.std.proofs.lemmas.List.{length-set}
use Rattle.std.proofs.lemmas.List.Elements.{All-set, All-get_or}
use Rattle.lagrangian.specs.declared.column.Column.{Column}
use Rattle.lagrangian.specs.Columns.{Mixture, AreWithin, IsColumn, AreColumns, IsSegmentIn, AreSegmentsIn, Keeps}

-- the columns that a mixture has, where one is another
pub AreColumns-set : (caps : List ℕ) (columns : List Column) (at : ℕ) (column : Column) → AreColumns caps columns → IsColumn caps column
    → AreColumns caps (set columns at column)
AreColumns-set caps columns at column h c = record {
  small = h.small;
  count = length-set columns at column ∙ h.count;
  each = All-set (IsColumn caps) columns at column c h.each;
}

-- where it has the units of the column whose place it takes
pub AreColumns-same : (caps : List ℕ) (columns : List Column) (at : ℕ) (was column : Column) → AreColumns caps columns → at < length columns
    → was ≡ get_or columns at was → column.units ≡ was.units → AreColumns caps (set columns at column)
AreColumns-same caps columns at was column h l w u =
    let before : IsColumn caps was = subst (IsColumn caps) (sym w) (All-get_or (IsColumn caps) columns at was l h.each) in
    AreColumns-set caps columns at column h (subst (AreWithin caps) (sym u) before)

pub AreSegmentsIn-set : (low high : ℕ) (columns : List Column) (at : ℕ) (column : Column)
    → AreSegmentsIn low high (record { caps = []; weights = []; columns = columns }) → IsSegmentIn low high column.segment
    → AreSegmentsIn low high (record { caps = []; weights = []; columns = set columns at column })
AreSegmentsIn-set low high columns at column h s = All-set (λ (c : Column). IsSegmentIn low high c.segment) columns at column s h

-- a column of the segment of the one whose place it takes
pub Keeps-set : (old : Mixture) (caps weights : List ℕ) (columns : List Column) (at : ℕ) (was column : Column) → at < length columns
    → was ≡ get_or columns at was → column.segment ≡ was.segment → Keeps old (record { caps = caps; weights = weights; columns = columns })
    → Keeps old (record { caps = caps; weights = weights; columns = set columns at column })
Keeps-set old caps weights columns at was column l w s kept = record {
  caps = kept.caps;
  places = λ h. let p = kept.places h in record { columns = length-set columns at column ∙ p.columns; weights = p.weights };
  total = kept.total;
  inside = λ low high h.
      let P : Column → Type 0 = λ (c : Column). IsSegmentIn low high c.segment in
      let all = kept.inside low high h in
      let before : P was = subst P (sym w) (All-get_or P columns at was l all) in
      All-set P columns at column (subst (IsSegmentIn low high) (sym s) before) all;
}

set_here : (xs : List ℕ) (i x v : ℕ) → i < length xs → v ≡ i → get_or (set xs i x) v 0 ≡ x
set_here xs i x v l e = grind (arith, common_steps)

set_there : (xs : List ℕ) (i x v : ℕ) → v ≢ i → get_or (set xs i x) v 0 ≡ get_or xs v 0
set_there xs i x v n = grind (arith, common_steps)

-- units within the caps where those of one good are others within its cap
pub AreWithin-set : (caps units : List ℕ) (k n : ℕ) → AreWithin caps units → k < length units → n ≤ get_or caps k 0 → AreWithin caps (set units k n)
AreWithin-set caps units k n h l le = record {
  width = length-set units k n ∙ h.width;
  within = λ j. ⊎_elim
      (λ (z : j ≡ k). let s = set_here units k n j l z in let e = ap (λ x. get_or caps x 0) z in omega arith)
      (λ (z : j ≢ k). let s = set_there units k n j z in omega (arith, h.within j))
      (cases_eq j k);
}

-- a column that stands among others is within the caps
pub column_of : (caps : List ℕ) (columns : List Column) (at : ℕ) (column : Column) → AreColumns caps columns → at < length columns
    → column ≡ get_or columns at column → AreWithin caps column.units
column_of caps columns at column h l is = subst (IsColumn caps) (sym is) (All-get_or (IsColumn caps) columns at column l h.each)
