-- The segments of a supplier that a change does not touch, and the suppliers one after another.
use Rattle.std.proofs.Common.{ℕ, ◌≡◌, ◌+◌, ◌-◌, ◌<◌, ◌≤◌, ℤ, ◌+ℤ◌, List, [], ◌∷◌, ◌++◌, length, set, get_or, take, drop, refl, ap, sym, subst, ◌∙◌, arith, inl, inr, length-set}
use Rattle.std.specs.List.{HoldsAt}
use Rattle.std.proofs.lemmas.Bool.{cases_lt}
use Rattle.std.proofs.lemmas.List.{take_at, get_or_append_left, get_or_push, length_push, get_or-set_same, get_or-set_other}
use Rattle.tqd_base.specs.Sum.{signed_sum_to}
use Rattle.tqd_instance.specs.declared.job.Job.{Job}
use Rattle.tqd_instance.specs.Job.{goods, suppliers}
use Rattle.interval_box.specs.declared.boxes.IntervalBox.{IntervalBox}
use Rattle.interval_box.specs.Ranges.{low_of, high_of, Admits}
use Rattle.bound_tree.specs.Prices.{Prices, places_to, place_of, segment_price, IsPrice}
use Rattle.bound_tree.specs.Value.{charges_of, supplier_value, goods_value, value, value_by}
use Rattle.bound_tree.proofs.BoxPlaces.{place_below}
use Rattle.price_climb.specs.declared.column.Column.{Column}
use Rattle.price_climb.specs.PriceList.{with_price}
use Rattle.price_climb.specs.Columns.{segment_in, IsColumn, Touches}
use Rattle.price_climb.specs.Table.{IsFitting, AreColumns, IsTable}
use Rattle.price_climb.proofs.Bounds.{IsWithin, segment_within, least_within}
use Rattle.price_climb.proofs.Columns.{keeps_same}
use Rattle.price_climb.proofs.Fitting.{high_few}
use Rattle.price_climb.proofs.PriceLists.{with_price_fits}
use Rattle.price_climb.proofs.Moves.{segment_zero, segment_stays}

place_from : (area : IntervalBox) (i j : ℕ) → places_to area i ≤ place_of area i j
unfolding place_of
place_from area i j = omega arith

-- a column stays the same where a change does not touch it
pub column_stays : (job : Job) (area : IntervalBox) (row : Prices) (i n : ℕ) (p : ℤ) (column : Column) → IsFitting job area row → i < suppliers job
    → (Touches job area n i → ⊥) → IsColumn job area row i column → IsColumn job area (with_price job row n p) i column
column_stays job area row i n p column fitting below misses k =
    let range = high_few job area i fitting.of_job below in
    keeps_same (low_of area i) (high_of area i - low_of area i) (segment_in job area row i) (segment_in job area (with_price job row n p) i) column
    (λ j from to. elim (cases_lt 0 j) [
      | inl some ↦
          (let admits : Admits area i j = record { from_low = from; to_high = omega (arith, range.0) } in
          let inside = place_below area i j some admits in
          let first = place_from area i j in
          let no_good : goods job ≤ n = at_least n (goods job) (λ less. misses (inl less)) in
          segment_stays job area row i j n p fitting.fits.goods no_good (λ e. misses (inr (omega arith, omega arith))))
      | inr none ↦
          (let zero : j ≡ 0 = omega arith in
          segment_zero job area row i j zero ∙ sym (segment_zero job area (with_price job row n p) i j zero))
    ])
    k
  where
    at_least : (n g : ℕ) → (n < g → ⊥) → g ≤ n
    at_least n g never = elim (cases_lt n g) [
      | inl less ↦ absurd (never less)
      | inr from ↦ from
    ]

-- one supplier more
pub columns_none : (job : Job) (area : IntervalBox) (row : Prices) (columns : List Column) → columns ≡ [] → AreColumns job area row 0 columns
columns_none job area row columns e = record { count = ap length e; each = λ i below. absurd (omega arith) }

pub columns_push : (job : Job) (area : IntervalBox) (row : Prices) (n : ℕ) (columns next : List Column) (column : Column) → AreColumns job area row n columns
    → IsColumn job area row n column → next ≡ columns ++ column ∷ [] → AreColumns job area row (n + 1) next
columns_push job area row n columns next column a is e = record {
  count = ap length e ∙ length_push columns column ∙ ap (λ m. m + 1) a.count;
  each = λ i below d. subst (λ xs. IsColumn job area row i (get_or xs i d)) (sym e) (elim (cases_lt i n) [
    | inl before ↦ subst (IsColumn job area row i) (sym (get_or_append_left columns (column ∷ []) d i (omega (arith, a.count)))) (a.each i before d)
    | inr here ↦
        (let at : n ≡ i = omega arith in
        subst (λ m. IsColumn job area row m (get_or (columns ++ column ∷ []) m d)) at
        (subst (IsColumn job area row n) (sym (get_or_push columns column d n a.count)) is))
  ]);
}

-- the columns of the first n suppliers are those of another row
pub record AreChanged (job : Job) (area : IntervalBox) (row next : Prices) (n : ℕ) (columns : List Column) : Type 0 where
  pub count : length columns ≡ suppliers job
  pub done : (i : ℕ) → i < n → HoldsAt (IsColumn job area next i) columns i
  pub left : (i : ℕ) → n ≤ i → i < suppliers job → HoldsAt (IsColumn job area row i) columns i

pub changed_none : (job : Job) (area : IntervalBox) (row next : Prices) (columns : List Column) → AreColumns job area row (suppliers job) columns → AreChanged job area row next 0 columns
changed_none job area row next columns a = record { count = a.count; done = λ i below. absurd (omega arith); left = λ i from below. a.each i below }

pub changed_more : (job : Job) (area : IntervalBox) (row next : Prices) (n : ℕ) (columns after : List Column) (column : Column) → n < suppliers job
    → AreChanged job area row next n columns → IsColumn job area next n column → after ≡ set columns n column → AreChanged job area row next (n + 1) after
changed_more job area row next n columns after column below a is e = record {
  count = ap length e ∙ length-set columns n column ∙ a.count;
  done = λ i inside d. subst (λ xs. IsColumn job area next i (get_or xs i d)) (sym e) (elim (cases_lt i n) [
    | inl before ↦ subst (IsColumn job area next i) (sym (get_or-set_other columns n i column d (λ e. omega arith))) (a.done i before d)
    | inr here ↦
        (let at : n ≡ i = omega arith in
        subst (λ m. IsColumn job area next m (get_or (set columns n column) m d)) at
        (subst (IsColumn job area next n) (sym (get_or-set_same columns n column d (omega (arith, a.count)))) is))
  ]);
  left = λ i from inside d. subst (λ xs. IsColumn job area row i (get_or xs i d)) (sym e)
      (subst (IsColumn job area row i) (sym (get_or-set_other columns n i column d (λ e. omega arith))) (a.left i (omega arith) inside d));
}

pub changed_all : (job : Job) (area : IntervalBox) (row next : Prices) (n : ℕ) (columns : List Column) → suppliers job ≤ n → AreChanged job area row next n columns
    → AreColumns job area next (suppliers job) columns
changed_all job area row next n columns all a = record { count = a.count; each = λ i below. a.done i (omega arith) }

-- the least value of a supplier in a row
unfoldable pub supplier_in : Job → IntervalBox → Prices → ℕ → ℤ
supplier_in job area row i = supplier_value (charges_of job) job area row.goods (segment_price area row i) i

pub least_is : (job : Job) (area : IntervalBox) (row : Prices) (i : ℕ) (column : Column) → IsColumn job area row i column → column.least ≡ supplier_in job area row i
unfolding supplier_in supplier_value segment_in
least_is job area row i column k = k.least

pub supplier_within : (job : Job) (area : IntervalBox) (row : Prices) (i : ℕ) → IsFitting job area row → i < suppliers job → IsWithin 1000000000000000000000000000 (supplier_in job area row i)
unfolding supplier_in supplier_value segment_in
supplier_within job area row i fitting below =
    let range = high_few job area i fitting.of_job below in
    least_within (low_of area i) (high_of area i - low_of area i) 1000000000000000000000000000 (segment_in job area row i)
    (λ j from to. segment_within job area row i j fitting.of_job fitting.fits below (record { from_low = from; to_high = omega (arith, range.0) }))

pub value-is : (job : Job) (area : IntervalBox) (row : Prices) → value job area row ≡ goods_value job row.goods +ℤ signed_sum_to (suppliers job) (supplier_in job area row)
unfolding value_by supplier_in
value-is job area row = refl

pub least_at : (job : Job) (area : IntervalBox) (row : Prices) (n i : ℕ) (columns : List Column) (d : Column) → AreColumns job area row n columns → i < n
    → (get_or columns i d).least ≡ supplier_in job area row i
least_at job area row n i columns d a below = least_is job area row i (get_or columns i d) (a.each i below d)

-- the row after a change fits the box
pub fitting_after : (job : Job) (area : IntervalBox) (row : Prices) (n : ℕ) (p : ℤ) → IsFitting job area row → IsPrice p → IsFitting job area (with_price job row n p)
fitting_after job area row n p fitting is = record { of_job = fitting.of_job; fits = with_price_fits job area row n p fitting.fits is }

-- the items of a list that was changed in place
pub changed_items : (n : ℕ) (old lent new : List Column) → lent ≡ old → n ≡ length lent → length new ≡ length old → take n (new ++ drop (length new) old) ≡ new
changed_items n old lent new same size kept = take_at new (drop (length new) old) n (omega (arith, ap length same))

-- what a table keeps after a change
pub table_after : (job : Job) (area : IntervalBox) (row next : Prices) (n : ℕ) (p sum : ℤ) (columns items : List Column) → IsFitting job area row → IsPrice p
    → next ≡ with_price job row n p → AreColumns job area (with_price job row n p) (suppliers job) columns → items ≡ columns
    → sum ≡ goods_value job (with_price job row n p).goods → IsTable (record { job = job; area = area; row = next }) items sum
table_after job area row next n p sum columns items fitting is e each same goods =
    subst (λ r. IsTable (record { job = job; area = area; row = r }) items sum) (sym e) (record {
      fitting = fitting_after job area row n p fitting is;
      each = subst (AreColumns job area (with_price job row n p) (suppliers job)) (sym same) each;
      goods = goods;
    })
