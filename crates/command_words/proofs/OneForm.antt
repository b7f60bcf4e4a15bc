-- The list have different first words, so that words are of one at most.
use Rattle.std.proofs.Common.{ℕ, ◌≡◌, ◌≤◌, ◌+◌, Bool, true, false, List, [], ◌∷◌, arith, refl, sym, subst, cond}
use Rattle.std.specs.Prelude.{◌&&◌, not}
use Rattle.std.specs.Cmp.Lexicographic.{same_text}
use Rattle.std.specs.List.{count_by, list_all}
use Rattle.std.proofs.lemmas.List.Sums.{sum_by-cons}
use Rattle.std.proofs.lemmas.Bool.{false≢true}
use Rattle.tqd_base.specs.World.{Name}
use Rattle.command_words.specs.Text.{same}
use Rattle.command_words.specs.Forms.{Form, forms, is_of, stand_for}
use Rattle.command_words.proofs.FormLemmas.{both}

-- whether no form's first word is this one
abbrev pub is_new : Name → List Form → Bool
is_new word list = list_all (λ form. not (same word form.word)) list

-- whether the first words of list differ
abbrev pub all_differ : List Form → Bool
all_differ [] = true
all_differ (form ∷ list) = is_new form.word list && all_differ list

abbrev pub is_called : Name → Form → Bool
is_called word form = same word form.word

abbrev pub one_if : Bool → ℕ
one_if b = cond {A = ℕ} b 1 0

one_at_most : (b : Bool) → one_if b ≤ 1
one_at_most true = omega arith
one_at_most false = omega arith

count_first : {X : Type 0} (p : X → Bool) (x : X) (xs : List X) → count_by p (x ∷ xs) ≡ one_if (p x) + count_by p xs
count_first p x xs = sum_by-cons (λ y. one_if (p y)) x xs

not_called : (b : Bool) → not b ≡ true → one_if b ≡ 0
not_called true e = absurd (false≢true e)
not_called false e = refl

none_called : (word : Name) (list : List Form) → is_new word list ≡ true → count_by (is_called word) list ≡ 0
none_called word [] e = refl
none_called word (form ∷ list) e =
    let parts = both (not (same word form.word)) (is_new word list) e in
    let first = not_called (same word form.word) parts.0 in
    let others = none_called word list parts.1 in
    omega (arith, count_first (is_called word) form list, first, others)

same_words : (a b : Name) → same a b ≡ true → a ≡ b
unfolding same
same_words a b e = same_text a b (sym e)

one_called_at : (word : Name) (form : Form) (list : List Form) (b : Bool) → same word form.word ≡ b → is_new form.word list ≡ true
    → count_by (is_called word) list ≤ 1 → one_if b + count_by (is_called word) list ≤ 1
one_called_at word form list true is new others =
    let none = none_called word list (subst (λ (w : Name). is_new w list ≡ true) (sym (same_words word form.word is)) new) in omega (arith, none)
one_called_at word form list false is new others = omega (arith, others)

one_called : (word : Name) (list : List Form) → all_differ list ≡ true → count_by (is_called word) list ≤ 1
one_called word [] e = omega arith
one_called word (form ∷ list) e =
    let parts = both (is_new form.word list) (all_differ list) e in
    let here = one_called_at word form list (same word form.word) refl parts.0 (one_called word list parts.1) in
    omega (arith, count_first (is_called word) form list, here)

-- a form that words are of has their first word
and_less : (a b : Bool) → one_if (a && b) ≤ one_if a
and_less true b = one_at_most b
and_less false b = omega arith

fewer_first : (first : Name) (words : List Name) (form : Form) → one_if (is_of form (first ∷ words)) ≤ one_if (same first form.word)
unfolding is_of
fewer_first first words form = and_less (same first form.word) (stand_for form.behind form.fields words)

fewer : (first : Name) (words : List Name) (list : List Form) → count_by (λ form. is_of form (first ∷ words)) list ≤ count_by (is_called first) list
fewer first words [] = omega arith
fewer first words (form ∷ list) =
    let here = fewer_first first words form in
    let others = fewer first words list in
    omega (arith, count_first (λ form. is_of form (first ∷ words)) form list, count_first (is_called first) form list, here, others)

none_first : (form : Form) → one_if (is_of form []) ≡ 0
unfolding is_of
none_first form = refl

none_of_nothing : (list : List Form) → count_by (λ form. is_of form []) list ≡ 0
none_of_nothing [] = refl
none_of_nothing (form ∷ list) =
    let others = none_of_nothing list in omega (arith, count_first (λ form. is_of form []) form list, none_first form, others)

forms_differ : all_differ forms ≡ true
unfolding same
forms_differ = refl

pub one_form : (words : List Name) → count_by (λ form. is_of form words) forms ≤ 1
one_form [] = let none = none_of_nothing forms in omega (arith, none)
one_form (first ∷ words) = let few = fewer first words forms in let one = one_called first forms forms_differ in omega (arith, few, one)
