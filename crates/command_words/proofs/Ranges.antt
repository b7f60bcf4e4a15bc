-- The numbers of a command are in their ranges, and words of a form are a command.
use Rattle.std.proofs.Common.{◌≡◌, Bool, true, false, List, [], ◌∷◌, Option, None, Some, arith, refl, sym, ◌∙◌, subst, cond}
use Rattle.std.specs.Prelude.{◌||◌, ◌&&◌, nat_le, is_some, length, map, option_and_then}
use Rattle.std.specs.List.{find, list_all, list_any}
use Rattle.std.specs.Option.{option_map}
use Rattle.std.proofs.lemmas.List.{length-map}
use Rattle.std.proofs.lemmas.Bool.{false≢true, leb-true}
use Rattle.tqd_base.specs.declared.limits.TheConstants.{GOODS_MAX, SUPPLIERS_MAX, WORKERS_MAX}
use Rattle.tqd_base.specs.World.{Name}
use Rattle.command_words.specs.declared.word.TheConstants.{SCENARIOS_MAX, SEED_MAX}
use Rattle.command_words.specs.declared.form.Field.{Field}
use Rattle.command_words.specs.declared.form.Field.TheVariants.{File, FileOrNone, Name as NameField, Number}
use Rattle.command_words.specs.declared.form.Behind.{Behind}
use Rattle.command_words.specs.declared.form.Behind.TheVariants.{Nothing, Workers, Files}
use Rattle.command_words.specs.declared.form.Verb.{Verb}
use Rattle.command_words.specs.declared.form.Verb.TheVariants.{Solve, Check, Needs, Make, Requote, Scenarios, Winners, BreakEven}
use Rattle.command_words.specs.Text.{same}
use Rattle.command_words.specs.Forms.{Form, are_files, file_of, files_in, forms, is_behind, is_of, is_option, option_in, stand_for, stands_for, verb_of}
use Rattle.command_words.specs.Words.{Asked, ToBreakEven, ToCheck, ToCompare, ToMake, ToNeed, ToRequote, ToSolve, ToTabulate, asked_by, command_of, compared, workers_of}
use Rattle.command_words.proofs.FormLemmas.{IsBetween, as_many, both, enough, number_between, stand_behind, stands_first}

-- the numbers of a command: the workers, or the goods and the suppliers
abbrev pub IsRanged : Asked → Type 0
IsRanged (ToSolve files tree workers) = IsBetween 1 WORKERS_MAX workers
IsRanged (ToCheck files tree) = Unit {0}
IsRanged (ToNeed orders bill) = Unit {0}
IsRanged (ToMake seed goods suppliers) = IsBetween 1 GOODS_MAX goods × IsBetween 1 SUPPLIERS_MAX suppliers
IsRanged (ToRequote files old tree) = Unit {0}
IsRanged (ToCompare files terms workers) = IsBetween 1 SCENARIOS_MAX (length terms) × IsBetween 1 WORKERS_MAX workers
IsRanged (ToTabulate files workers) = IsBetween 1 WORKERS_MAX workers
IsRanged (ToBreakEven files supplier) = Unit {0}

-- an answer that is a command with its numbers in their ranges
abbrev pub IsRangedAnswer : Option Asked → Type 0
IsRangedAnswer None = ⊥
IsRangedAnswer (Some command) = IsRanged command

one_worker : IsBetween 1 WORKERS_MAX 1
one_worker = record { above = omega arith; below = omega arith }

workers_ranged : (words : List Name) → is_option words ≡ true → IsBetween 1 WORKERS_MAX (workers_of words)
unfolding is_option workers_of
workers_ranged [] e = one_worker
workers_ranged (a ∷ []) e = absurd (false≢true e)
workers_ranged (option ∷ number ∷ []) e = number_between 1 WORKERS_MAX number (omega arith) (both _ (stands_for (Number 1 WORKERS_MAX) number) e).1
workers_ranged (a ∷ b ∷ c ∷ more) e = absurd (false≢true e)

-- as many names of files as words
as_long : (words : List Name) → IsBetween 1 SCENARIOS_MAX (length words) → IsBetween 1 SCENARIOS_MAX (length (map file_of words))
as_long words between = rw (length-map words file_of) between

option_behind : (option : List Name) → stand_for Workers [] option ≡ true → is_option option ≡ true
unfolding stand_for is_behind
option_behind option e = e

-- as many files as may be compared, and the option behind them
files_ranged : (words : List Name) → stand_for (Files SCENARIOS_MAX) [] words ≡ true
    → IsBetween 1 SCENARIOS_MAX (length (files_in words)) × IsBetween 1 WORKERS_MAX (workers_of (option_in words))
unfolding stand_for is_behind are_files
files_ranged words e =
    let files = files_in words in
    let option = option_in words in
    let parts = both (nat_le 1 (length files) && nat_le (length files) SCENARIOS_MAX && list_all (λ word. stands_for FileOrNone word) files) (is_option option) e in
    let counts = both (nat_le 1 (length files) && nat_le (length files) SCENARIOS_MAX) (list_all (λ word. stands_for FileOrNone word) files) parts.0 in
    let bounds = both (nat_le 1 (length files)) (nat_le (length files) SCENARIOS_MAX) counts.0 in (
      record { above = leb-true 1 (length files) bounds.0; below = leb-true (length files) SCENARIOS_MAX bounds.1 },
      workers_ranged option parts.1,
    )

-- what is asked for by words that stand for the fields of a form
abbrev pub AsksRanged : Verb → Behind → List Field → Type 0
AsksRanged verb behind fields = (first : Name) (words : List Name) → stand_for behind fields words ≡ true → IsRangedAnswer (asked_by verb (first ∷ words))

solve_asks : AsksRanged Solve Workers (File ∷ FileOrNone ∷ File ∷ FileOrNone ∷ FileOrNone ∷ [])
unfolding asked_by
solve_asks first (orders ∷ bill ∷ offers ∷ terms ∷ tree ∷ option) e = workers_ranged option (option_behind option
    (stand_behind _ _ _ _ _ (stand_behind _ _ _ _ _ (stand_behind _ _ _ _ _ (stand_behind _ _ _ _ _ (stand_behind _ _ _ _ _ e))))))
solve_asks first _ e = absurd (omega (arith, enough _ _ _ e))

check_asks : AsksRanged Check Nothing (File ∷ FileOrNone ∷ File ∷ FileOrNone ∷ File ∷ [])
unfolding asked_by
check_asks first (orders ∷ bill ∷ offers ∷ terms ∷ tree ∷ []) e = tt
check_asks first _ e = absurd (omega (arith, as_many _ _ e))

needs_asks : AsksRanged Needs Nothing (File ∷ FileOrNone ∷ [])
unfolding asked_by
needs_asks first (orders ∷ bill ∷ []) e = tt
needs_asks first _ e = absurd (omega (arith, as_many _ _ e))

make_asks : AsksRanged Make Nothing (Number 0 SEED_MAX ∷ Number 1 GOODS_MAX ∷ Number 1 SUPPLIERS_MAX ∷ [])
unfolding asked_by
make_asks first (seed ∷ goods ∷ suppliers ∷ []) e =
    let behind = stand_behind _ _ _ _ _ e in (
      number_between 1 GOODS_MAX goods (omega arith) (stands_first _ _ _ _ _ behind),
      number_between 1 SUPPLIERS_MAX suppliers (omega arith) (stands_first _ _ _ _ _ (stand_behind _ _ _ _ _ behind)),
    )
make_asks first _ e = absurd (omega (arith, as_many _ _ e))

requote_asks : AsksRanged Requote Nothing (File ∷ FileOrNone ∷ File ∷ FileOrNone ∷ File ∷ FileOrNone ∷ [])
unfolding asked_by
requote_asks first (orders ∷ bill ∷ offers ∷ terms ∷ old ∷ tree ∷ []) e = tt
requote_asks first _ e = absurd (omega (arith, as_many _ _ e))

scenarios_asks : AsksRanged Scenarios (Files SCENARIOS_MAX) (File ∷ FileOrNone ∷ File ∷ [])
unfolding asked_by compared
scenarios_asks first (orders ∷ bill ∷ offers ∷ words) e =
    let ranged = files_ranged words (stand_behind _ _ _ _ _ (stand_behind _ _ _ _ _ (stand_behind _ _ _ _ _ e))) in
    (as_long (files_in words) ranged.0, ranged.1)
scenarios_asks first _ e = absurd (omega (arith, enough _ _ _ e))

winners_asks : AsksRanged Winners Workers (File ∷ FileOrNone ∷ File ∷ FileOrNone ∷ [])
unfolding asked_by
winners_asks first (orders ∷ bill ∷ offers ∷ terms ∷ option) e = workers_ranged option (option_behind option
    (stand_behind _ _ _ _ _ (stand_behind _ _ _ _ _ (stand_behind _ _ _ _ _ (stand_behind _ _ _ _ _ e)))))
winners_asks first _ e = absurd (omega (arith, enough _ _ _ e))

break_even_asks : AsksRanged BreakEven Nothing (File ∷ FileOrNone ∷ File ∷ FileOrNone ∷ NameField ∷ [])
unfolding asked_by
break_even_asks first (orders ∷ bill ∷ offers ∷ terms ∷ supplier ∷ []) e = tt
break_even_asks first _ e = absurd (omega (arith, as_many _ _ e))

-- and so of words of the form
abbrev pub AsksOf : Form → Type 0
AsksOf form = (words : List Name) → is_of form words ≡ true → IsRangedAnswer (asked_by form.verb words)

asks_of : (form : Form) → AsksRanged form.verb form.behind form.fields → AsksOf form
unfolding is_of
asks_of form asks [] e = absurd (false≢true e)
asks_of form asks (first ∷ words) e = asks first words (both (same first form.word) (stand_for form.behind form.fields words) e).1

abbrev pub Each : (Form → Type 0) → List Form → Type 0
Each P [] = Unit {0}
Each P (form ∷ list) = P form × Each P list

-- each form asks so
forms_ask : Each AsksOf forms
forms_ask = (
  asks_of _ solve_asks,
  (
    asks_of _ check_asks,
    (
      asks_of _ needs_asks,
      (
        asks_of _ make_asks,
        (
          asks_of _ requote_asks,
          (
            asks_of _ scenarios_asks,
            (asks_of _ winners_asks, (asks_of _ break_even_asks, tt)),
          ),
        ),
      ),
    ),
  ),
)

-- what words of one of these forms ask for
abbrev pub asked_of : List Form → List Name → Option Asked
asked_of list words = option_and_then (λ v. asked_by v words) (option_map (λ (form : Form). form.verb) (find (λ form. is_of form words) list))

first_asks : (form : Form) (list : List Form) (words : List Name) (b : Bool) (P : Option Asked → Type 0) → is_of form words ≡ b
    → (is_of form words ≡ true → P (asked_by form.verb words)) → (is_of form words ≡ false → P (asked_of list words))
    → P (option_and_then (λ v. asked_by v words) (option_map (λ (form : Form). form.verb) (cond b (Some form) (find (λ form. is_of form words) list))))
first_asks form list words true P same here later = here same
first_asks form list words false P same here later = later same

asked_ranged : (list : List Form) (words : List Name) (c : Asked) → Each AsksOf list → asked_of list words ≡ Some c → IsRanged c
asked_ranged [] words c each e = absurd (nothing c e) where
  nothing : (c : Asked) → ◌≡◌ {A = Option Asked} None (Some c) → ⊥
  nothing c e = cc
asked_ranged (form ∷ list) words c each e = first_asks form list words (is_of form words) (λ o. o ≡ Some c → IsRanged c) refl
    (λ is at. subst IsRangedAnswer at (each.0 words is))
    (λ not at. asked_ranged list words c each.1 at) e

pub ranged : (words : List Name) (c : Asked) → command_of words ≡ Some c → IsRanged c
unfolding command_of verb_of
ranged words c e = asked_ranged forms words c forms_ask e

-- an answer that has a command is some
some_of : (o : Option Asked) → IsRangedAnswer o → is_some o ≡ true
some_of None r = absurd r
some_of (Some c) r = refl

or_true : (a b : Bool) → a ≡ true → (a || b) ≡ true
or_true true b e = refl
or_true false b e = absurd (false≢true e)

or_false : (a b : Bool) → a ≡ false → (a || b) ≡ b
or_false false b e = refl
or_false true b e = absurd (false≢true (sym e))

asked_where : (list : List Form) (words : List Name) → Each AsksOf list → is_some (asked_of list words) ≡ list_any (λ form. is_of form words) list
asked_where [] words each = refl
asked_where (form ∷ list) words each = first_asks form list words (is_of form words) (λ o. is_some o ≡ list_any (λ form. is_of form words) (form ∷ list)) refl
    (λ is. some_of (asked_by form.verb words) (each.0 words is) ∙ sym (or_true (is_of form words) (list_any (λ form. is_of form words) list) is))
    (λ not. asked_where list words each.1 ∙ sym (or_false (is_of form words) (list_any (λ form. is_of form words) list) not))

pub command_where : (words : List Name) → is_some (command_of words) ≡ list_any (λ form. is_of form words) forms
unfolding command_of verb_of
command_where words = asked_where forms words forms_ask
