-- How the values of a supplier's segments are kept, one after another.
use Rattle.std.proofs.Common.{ℕ, zero, suc, ◌≡◌, ◌≢◌, ◌+◌, ◌-◌, ◌<◌, ◌≤◌, ℤ, pos, List, length, set, ap, sym, subst, ◌∙◌, arith, inl, inr, length-set}
use Rattle.std.specs.Int.{int_min}
use Rattle.std.proofs.lemmas.Bool.{cases_lt}
use Rattle.std.proofs.lemmas.List.{get_or-set_same, get_or-set_other}
use Rattle.bound_tree.specs.LeastFrom.{least_from}
use Rattle.bound_tree.proofs.SignedSums.{least_from-zero, least_from-suc, least_from-more}
use Rattle.price_climb.specs.declared.column.Column.{Column}
use Rattle.price_climb.specs.Columns.{value_in, Keeps}

value_in-same : (values : List ℤ) (j : ℕ) (value least : ℤ) → j < length values → value_in (record { values = set values j value; least = least }) j ≡ value
unfolding value_in
value_in-same values j value least below = get_or-set_same values j value (pos 0) below

value_in-other : (column : Column) (j m : ℕ) (value least : ℤ) → m ≢ j → value_in (record { values = set column.values j value; least = least }) m ≡ value_in column m
unfolding value_in
value_in-other column j m value least other = get_or-set_other column.values j m value (pos 0) other

-- the value of one segment is kept
pub keeps_one : (f : ℕ → ℤ) (j at : ℕ) (values : List ℤ) (value least : ℤ) → length values ≡ 17 → j ≤ 16 → at ≡ j → value ≡ f j → least ≡ value
    → Keeps j 0 f (record { values = set values at value; least = least })
keeps_one f j at values value least size few here is same = record {
  size = length-set values at value ∙ size;
  values = λ m from to.
      (let at_m : at ≡ m = omega arith in
      let same_m : m ≡ j = omega arith in
      subst (λ n. value_in (record { values = set values at value; least = least }) n ≡ f n) at_m
      (value_in-same values at value least (omega arith) ∙ is ∙ ap f (sym here)));
  least = same ∙ is ∙ sym (least_from-zero j f);
}

-- and that of the next one
pub keeps_more : (low n j at : ℕ) (f : ℕ → ℤ) (column : Column) (value least : ℤ) → Keeps low n f column → j ≤ 16 → j ≡ low + (n + 1) → at ≡ j → value ≡ f j
    → least ≡ int_min column.least value → Keeps low (n + 1) f (record { values = set column.values at value; least = least })
keeps_more low n j at f column value least k few next here is min = record {
  size = length-set column.values at value ∙ k.size;
  values = λ m from to. elim (cases_lt m at) [
    | inl before ↦ value_in-other column at m value least (λ e. omega arith) ∙ k.values m from (omega arith)
    | inr last ↦
        (let at_m : at ≡ m = omega arith in
        subst (λ n. value_in (record { values = set column.values at value; least = least }) n ≡ f n) at_m
        (value_in-same column.values at value least (omega (arith, k.size)) ∙ is ∙ ap f (sym here)))
  ];
  least = min ∙ ap (λ z. int_min z value) k.least ∙ ap (int_min (least_from low n f)) (is ∙ ap f next) ∙ sym (least_from-more low n f);
}

least_from-same : (a n : ℕ) (f g : ℕ → ℤ) → ((j : ℕ) → a ≤ j → j ≤ a + n → f j ≡ g j) → least_from a n f ≡ least_from a n g
least_from-same a zero f g same = least_from-zero a f ∙ same a (omega arith) (omega arith) ∙ sym (least_from-zero a g)
least_from-same a (suc n) f g same =
    let rest = least_from-same a n f g (λ j from to. same j from (omega arith)) in
    let last = same (a + suc n) (omega arith) (omega arith) in
    least_from-suc a n f ∙ ap (λ z. int_min z (f (a + suc n))) rest ∙ ap (int_min (least_from a n g)) last ∙ sym (least_from-suc a n g)

-- where the values are the same
pub keeps_same : (low n : ℕ) (f g : ℕ → ℤ) (column : Column) → ((j : ℕ) → low ≤ j → j ≤ low + n → f j ≡ g j) → Keeps low n f column → Keeps low n g column
keeps_same low n f g column same k = record {
  size = k.size;
  values = λ j from to. k.values j from to ∙ same j from to;
  least = k.least ∙ least_from-same low n f g same;
}

-- where a loop over a range begins
pub keeps_first : (low : ℕ) (f : ℕ → ℤ) (column : Column) → Keeps low 0 f column → Keeps low (low + 1 - (low + 1)) f column
keeps_first low f column k = let none : 0 ≡ low + 1 - (low + 1) = omega arith in subst (λ n. Keeps low n f column) none k
