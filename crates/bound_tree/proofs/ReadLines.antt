-- Reading a line by its words.
use Rattle.std.proofs.Common.{◌≡◌, ℕ, ◌<◌, ◌≤◌, Bool, true, false, ℤ, List, [], ◌∷◌, length, Option, None, Some, refl, sym, ◌∙◌, ap, arith, eqb, leb, subst}
use Rattle.std.proofs.lemmas.Bool.{le-leb}
use Rattle.std.proofs.lemmas.Bool.Decides.{nat_tests}
use Rattle.std.proofs.lemmas.List.Sums.{count_by-le-length}
use Rattle.std.proofs.lemmas.List.Splits.{length-slice_split}
use Rattle.std.specs.Prelude.{if◌then◌else◌}
use Rattle.std.specs.Option.{option_map, option_and_then}
use Rattle.tqd_base.specs.World.{Bytes}
use Rattle.tqd_base.specs.declared.limits.TheConstants.{LINE_MAX}
use Rattle.money.specs.Number.{count_of, signed_of}
use Rattle.bound_tree.specs.declared.word.Word.{Word}
use Rattle.bound_tree.specs.declared.word.Word.TheVariants.{Header as HeaderWord, NoPlan as NoPlanWord, Plan as PlanWord, Buy as BuyWord, Split as SplitWord, Row as RowWord, Bound as BoundWord, Empty as EmptyWord, Winners as WinnersWord}
use Rattle.bound_tree.specs.declared.line.TreeLine.{TreeLine}
use Rattle.bound_tree.specs.declared.line.TreeLine.TheVariants.{Header, Header2, Row, Bound, Empty}
use Rattle.bound_tree.specs.Words.{words, numbers_of}
use Rattle.bound_tree.specs.LineWords.{word_of}
use Rattle.bound_tree.specs.ReadLine.{read_counts, read_row, read_as, read_words, read_text, read_line}
use Rattle.bound_tree.specs.Fields.{after_slot, price_fields, price_fields_by, price_words}
use Rattle.bound_tree.specs.LineHead.{without_prices, head_of, prices_in, prices_of, IsRowOf}

long_test : (b : Bool) (o : Option TreeLine) → b ≡ false → (if b then o else None) ≡ None
long_test true o is = absurd (cc)
long_test false o is = refl

-- a line that is too long is none of a tree
pub head_long : (line : Bytes) → LINE_MAX < length line → None ≡ head_of line
unfolding read_line
head_long line long = let is : leb (length line) LINE_MAX ≡ false = grind (arith, nat_tests) in rw is refl

pub read_by_words : (line word : Bytes) (fields : List Bytes) → length line ≤ LINE_MAX → words line ≡ word ∷ fields
    → read_line line ≡ option_and_then (λ w. read_as w fields) (word_of word)
unfolding read_line read_text
read_by_words line word fields short e = let is : leb (length line) LINE_MAX ≡ true = le-leb _ _ short in rw (is, e) refl

pub head_none : (line word : Bytes) (fields : List Bytes) → length line ≤ LINE_MAX → words line ≡ word ∷ fields → word_of word ≡ None → None ≡ head_of line
head_none line word fields short e none = sym (ap (option_map without_prices) (read_by_words line word fields short e ∙ ap (option_and_then (λ w. read_as w fields)) none))

pub head_some : (line word : Bytes) (fields : List Bytes) (w : Word) → length line ≤ LINE_MAX → words line ≡ word ∷ fields → word_of word ≡ Some w
    → option_map without_prices (read_as w fields) ≡ head_of line
head_some line word fields w short e some = sym (ap (option_map without_prices) (read_by_words line word fields short e ∙ ap (option_and_then (λ w. read_as w fields)) some))

pub fields_few : (line word : Bytes) (fields : List Bytes) → words line ≡ word ∷ fields → length fields ≤ length line
fields_few line word fields e = omega (arith, length-slice_split (λ b. eqb b 32) line, ap length e, count_by-le-length (λ b. eqb b 32) line)

words_some : (line : Bytes) → words line ≡ [] → ⊥
words_some line e = let none = ap length e in omega (arith, length-slice_split (λ b. eqb b 32) line)

-- a word and counts are no row
counts_no_row : (n : ℕ) (w : Word) (counts : List ℕ) → IsRowOf n (option_map without_prices (read_counts w counts)) → ⊥
unfolding read_counts
counts_no_row n HeaderWord [] h = h
counts_no_row n HeaderWord (v ∷ []) h = version (eqb v 1) (eqb v 2) h where
  version : (b c : Bool) → IsRowOf n (option_map without_prices (if b then Some Header else if c then Some Header2 else None)) → ⊥
  version true c k = k
  version false true k = k
  version false false k = k
counts_no_row n HeaderWord (v ∷ u ∷ more) h = h
counts_no_row n NoPlanWord [] h = h
counts_no_row n NoPlanWord (v ∷ more) h = h
counts_no_row n PlanWord [] h = h
counts_no_row n PlanWord (v ∷ []) h = h
counts_no_row n PlanWord (v ∷ u ∷ []) h = h
counts_no_row n PlanWord (v ∷ u ∷ t ∷ more) h = h
counts_no_row n BuyWord [] h = h
counts_no_row n BuyWord (v ∷ []) h = h
counts_no_row n BuyWord (v ∷ u ∷ []) h = h
counts_no_row n BuyWord (v ∷ u ∷ t ∷ []) h = h
counts_no_row n BuyWord (v ∷ u ∷ t ∷ s ∷ more) h = h
counts_no_row n SplitWord [] h = h
counts_no_row n SplitWord (v ∷ []) h = h
counts_no_row n SplitWord (v ∷ u ∷ []) h = h
counts_no_row n SplitWord (v ∷ u ∷ t ∷ more) h = h
counts_no_row n RowWord counts h = h
counts_no_row n BoundWord counts h = h
counts_no_row n EmptyWord counts h = h
counts_no_row n WinnersWord [] h = h
counts_no_row n WinnersWord (v ∷ more) h = h

-- the fields of a row and its prices
pub record HasRow (n : ℕ) (fields : List Bytes) (prices : List ℤ) : Type 0 where
  pub read : numbers_of signed_of fields ≡ Some prices
  pub count : length prices ≡ n

counted_no_row : (n : ℕ) (w : Word) (o : Option (List ℕ)) → IsRowOf n (option_map without_prices (option_and_then (read_counts w) o)) → ⊥
counted_no_row n w None h = h
counted_no_row n w (Some counts) h = counts_no_row n w counts h

bound_row : (n : ℕ) (fields : List Bytes) (o : Option (List ℤ)) → numbers_of signed_of fields ≡ o → IsRowOf n (option_map without_prices (option_map Bound o))
    → HasRow n fields (prices_in (option_map Bound o))
bound_row n fields None is h = absurd h
bound_row n fields (Some prices) is h = record { read = is; count = h }

empty_row : (n : ℕ) (fields : List Bytes) (o : Option (List ℤ)) → numbers_of signed_of fields ≡ o → IsRowOf n (option_map without_prices (option_map Empty o))
    → HasRow n fields (prices_in (option_map Empty o))
empty_row n fields None is h = absurd h
empty_row n fields (Some prices) is h = record { read = is; count = h }

slot_row : (n : ℕ) (fields : List Bytes) (o : Option (List ℤ)) (c : Option ℕ) → numbers_of signed_of fields ≡ o
    → IsRowOf n (option_map without_prices (option_and_then (λ m. option_map (Row m) o) c)) → HasRow n fields (prices_in (option_and_then (λ m. option_map (Row m) o) c))
slot_row n fields o None is h = absurd h
slot_row n fields None (Some m) is h = absurd h
slot_row n fields (Some prices) (Some m) is h = record { read = is; count = h }

row_after_slot : (n : ℕ) (fields : List Bytes) → IsRowOf n (option_map without_prices (read_row fields)) → HasRow n (after_slot fields) (prices_in (read_row fields))
row_after_slot n [] h = absurd h
row_after_slot n (slot ∷ fields) h = slot_row n fields (numbers_of signed_of fields) (count_of slot) refl h

row_as : (n : ℕ) (w : Word) (fields : List Bytes) → IsRowOf n (option_map without_prices (read_as w fields)) → HasRow n (price_fields w fields) (prices_in (read_as w fields))
unfolding read_as
row_as n HeaderWord fields h = absurd (counted_no_row n HeaderWord (numbers_of count_of fields) h)
row_as n NoPlanWord fields h = absurd (counted_no_row n NoPlanWord (numbers_of count_of fields) h)
row_as n PlanWord fields h = absurd (counted_no_row n PlanWord (numbers_of count_of fields) h)
row_as n BuyWord fields h = absurd (counted_no_row n BuyWord (numbers_of count_of fields) h)
row_as n SplitWord fields h = absurd (counted_no_row n SplitWord (numbers_of count_of fields) h)
row_as n RowWord fields h = row_after_slot n fields h
row_as n BoundWord fields h = bound_row n fields (numbers_of signed_of fields) refl h
row_as n EmptyWord fields h = empty_row n fields (numbers_of signed_of fields) refl h
row_as n WinnersWord fields h = absurd (counted_no_row n WinnersWord (numbers_of count_of fields) h)

row_by : (n : ℕ) (o : Option Word) (fields : List Bytes) → IsRowOf n (option_map without_prices (option_and_then (λ w. read_as w fields) o))
    → HasRow n (price_fields_by o fields) (prices_in (option_and_then (λ w. read_as w fields) o))
row_by n None fields h = absurd h
row_by n (Some w) fields h = row_as n w fields h

row_test : (n : ℕ) (b : Bool) (o : Option Word) (fields : List Bytes) (read : Option TreeLine) → read ≡ (if b then option_and_then (λ w. read_as w fields) o else None)
    → IsRowOf n (option_map without_prices read) → HasRow n (price_fields_by o fields) (prices_in read)
row_test n true o fields read e h = subst (λ (r : Option TreeLine). HasRow n (price_fields_by o fields) (prices_in r)) (sym e) (row_by n o fields (subst (λ (r : Option TreeLine). IsRowOf n (option_map without_prices r)) e h))
row_test n false o fields read e h = absurd (subst (λ (r : Option TreeLine). IsRowOf n (option_map without_prices r)) e h)

row_words : (n : ℕ) (line : Bytes) (ws : List Bytes) → words line ≡ ws → IsRowOf n (head_of line) → HasRow n (price_words ws) (prices_of line)
unfolding read_line read_text price_words
row_words n line [] e h = absurd (words_some line e)
row_words n line (word ∷ fields) e h =
    row_test n (leb (length line) LINE_MAX) (word_of word) fields (read_line line) (ap (λ (ws : List Bytes). if leb (length line) LINE_MAX then read_words ws else None) e) h

-- the prices of a row stand in its fields
pub row_fields : (n : ℕ) (line : Bytes) → IsRowOf n (head_of line) → HasRow n (price_words (words line)) (prices_of line)
row_fields n line h = row_words n line (words line) refl h
