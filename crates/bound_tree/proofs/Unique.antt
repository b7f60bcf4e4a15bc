-- Lines are told apart by their texts.
use Rattle.std.proofs.Common.{◌≡◌, ℕ, suc, suc-mul, ◌+◌, ◌*◌, ◌^◌, ◌<◌, ◌≤◌, true, false, ℤ, pos, negsuc, List, [], ◌∷◌, ◌++◌, map, length, Some, refl, sym, ◌∙◌, ap, arith, eqb, eq-eqb, true≢false, append_assoc, length-append}
use Rattle.std.proofs.lemmas.Bool.{and_parts}
use Rattle.std.proofs.lemmas.Bool.Decides.{nat_tests}
use Rattle.std.proofs.lemmas.Fmt.{decimal_is_IsNumeral_wide, length-decimal-le_wide}
use Rattle.std.proofs.lemmas.List.Elements.{All-nil, All-cons, All-head, All-tail, All-append}
use Rattle.std.specs.Char.{is_ascii_digit}
use Rattle.std.specs.Fmt.{decimal, signed_decimal}
use Rattle.std.specs.List.{All}
use Rattle.std.specs.Prelude.{unsigned_abs, neg_ℤ, if◌then◌else◌}
use Rattle.std.specs.Str.{all_ascii_digits}
use Rattle.std.specs.Str.Parse.{digits_value}
use Rattle.tqd_base.specs.World.{Bytes}
use Rattle.money.proofs.Digits.{digit_value-of}
use Rattle.bound_tree.specs.declared.word.Word.{Word}
use Rattle.bound_tree.specs.declared.word.Word.TheVariants.{Header as HeaderWord, NoPlan as NoPlanWord, Plan as PlanWord, Buy as BuyWord, Split as SplitWord, Row as RowWord, Bound as BoundWord, Empty as EmptyWord, Winners as WinnersWord}
use Rattle.bound_tree.specs.declared.line.TreeLine.{TreeLine}
use Rattle.bound_tree.specs.declared.line.TreeLine.TheVariants.{Header, Header2, NoPlan, Plan, Buy, Split, Row, Bound, Empty, Winners}
use Rattle.bound_tree.specs.Words.{words}
use Rattle.bound_tree.specs.LineWords.{word_text, word_of}
use Rattle.bound_tree.specs.LineText.{fields_text, line_word, line_numbers, line_text, HasNumbersBelow}
use Rattle.bound_tree.specs.TreeText.{ended, lines_text}
use Rattle.bound_tree.proofs.LineTexts.{Lacks, all_digits, word_lacks, fields_lack, line_words, word_back}

-- the number that a text in its shortest spelling writes
abbrev value_of : Bytes → ℤ
value_of [] = pos 0
value_of (c ∷ cs) = if eqb c 45 then neg_ℤ (pos (digits_value 10 cs)) else pos (digits_value 10 (c ∷ cs))

no_sign : (c : ℕ) → is_ascii_digit c ≡ true → eqb c 45 ≡ false
no_sign c digit = let d = digit_value-of c digit in let from : 48 ≤ c = d.2 in grind (arith, nat_tests)

plain_value : (text : Bytes) (n : ℕ) → all_ascii_digits text ≡ true → digits_value 10 text ≡ n → value_of text ≡ pos n
plain_value [] n digits e = ap (λ (m : ℕ). pos m) e
plain_value (c ∷ cs) n digits e = let p = and_parts (is_ascii_digit c) (all_ascii_digits cs) digits in rw (no_sign c p.0) (ap (λ (m : ℕ). pos m) e)

value_back : (z : ℤ) → unsigned_abs z < 10 ^ 64 → value_of (signed_decimal z) ≡ z
value_back (pos n) small = plain_value (decimal n) n (all_digits n small) (decimal_is_IsNumeral_wide n small).1
value_back (negsuc n) small = ap (λ (m : ℕ). neg_ℤ (pos m)) (decimal_is_IsNumeral_wide (suc n) small).1

values_back : (zs : List ℤ) → All (λ z. unsigned_abs z < 10 ^ 64) zs → map value_of (map signed_decimal zs) ≡ zs
values_back [] small = refl
values_back (z ∷ zs) small =
    ap (λ (y : ℤ). y ∷ map value_of (map signed_decimal zs)) (value_back z (All-head (λ z. unsigned_abs z < 10 ^ 64) z zs small))
    ∙ ap (λ (ys : List ℤ). z ∷ ys) (values_back zs (All-tail (λ z. unsigned_abs z < 10 ^ 64) z zs small))

-- the line of a word and numbers
abbrev rebuilt : Word → List ℤ → TreeLine
rebuilt HeaderWord (pos version ∷ []) = if eqb version 1 then Header else Header2
rebuilt HeaderWord _ = NoPlan
rebuilt NoPlanWord zs = NoPlan
rebuilt PlanWord (pos cost ∷ pos count ∷ []) = Plan cost count
rebuilt PlanWord _ = NoPlan
rebuilt BuyWord (pos supplier ∷ pos good ∷ pos units ∷ []) = Buy supplier good units
rebuilt BuyWord _ = NoPlan
rebuilt SplitWord (pos supplier ∷ pos segment ∷ []) = Split supplier segment
rebuilt SplitWord _ = NoPlan
rebuilt RowWord (pos slot ∷ prices) = Row slot prices
rebuilt RowWord _ = NoPlan
rebuilt BoundWord prices = Bound prices
rebuilt EmptyWord prices = Empty prices
rebuilt WinnersWord zs = Winners

rebuild : (line : TreeLine) → rebuilt (line_word line) (line_numbers line) ≡ line
rebuild Header = refl
rebuild Header2 = refl
rebuild NoPlan = refl
rebuild (Plan cost count) = refl
rebuild (Buy supplier good units) = refl
rebuild (Split supplier segment) = refl
rebuild (Row slot prices) = refl
rebuild (Bound prices) = refl
rebuild (Empty prices) = refl
rebuild Winners = refl

same_parts : (first first' : Bytes) (others others' : List Bytes) → first ∷ others ≡ first' ∷ others' → (first ≡ first') × (others ≡ others')
same_parts first first' others others' e = (cc, cc)

same_word : (w v : Word) → Some w ≡ Some v → w ≡ v
same_word w v e = cc

pub line_unique : (line line' : TreeLine) → HasNumbersBelow (10 ^ 64) line → HasNumbersBelow (10 ^ 64) line' → line_text line ≡ line_text line' → line ≡ line'
line_unique line line' small small' e =
    let parts = same_parts (word_text (line_word line)) (word_text (line_word line')) (map signed_decimal (line_numbers line)) (map signed_decimal (line_numbers line'))
    (sym (line_words line small) ∙ (ap words e ∙ line_words line' small')) in
    let word : line_word line ≡ line_word line' = same_word (line_word line) (line_word line') (sym (word_back (line_word line)) ∙ (ap word_of parts.0 ∙ word_back (line_word line'))) in
    let numbers : line_numbers line ≡ line_numbers line' = sym (values_back (line_numbers line) small) ∙ (ap (map value_of) parts.1 ∙ values_back (line_numbers line') small') in
    sym (rebuild line) ∙ (ap (λ (w : Word). rebuilt w (line_numbers line)) word ∙ (ap (rebuilt (line_word line')) numbers ∙ rebuild line'))

-- a line has no line feed
fields_text_lack : (byte : ℕ) (fields : List Bytes) → eqb 32 byte ≡ false → All (Lacks byte) fields → Lacks byte (fields_text fields)
fields_text_lack byte [] space lack = All-nil (λ b. eqb b byte ≡ false)
fields_text_lack byte (field ∷ fields) space lack =
    All-cons (λ b. eqb b byte ≡ false) 32 (field ++ fields_text fields) space
    (All-append (λ b. eqb b byte ≡ false) field (fields_text fields) (All-head (Lacks byte) field fields lack) (fields_text_lack byte fields space (All-tail (Lacks byte) field fields lack)))

pub line_lacks_feed : (line : TreeLine) → HasNumbersBelow (10 ^ 64) line → Lacks 10 (line_text line)
unfolding line_text
line_lacks_feed line small =
    All-append (λ b. eqb b 10 ≡ false) (word_text (line_word line)) (fields_text (map signed_decimal (line_numbers line))) (word_lacks 10 (line_word line) (omega arith))
    (fields_text_lack 10 (map signed_decimal (line_numbers line)) refl (fields_lack 10 (line_numbers line) (omega arith) small))

feed_twice : {P : Type 0} (byte : ℕ) (bytes : Bytes) → Lacks 10 (byte ∷ bytes) → byte ≡ 10 → P
feed_twice byte bytes lack e = absurd (true≢false (sym (eq-eqb byte 10 e) ∙ All-head (λ b. eqb b 10 ≡ false) byte bytes lack))

-- two texts that are the same up to their first line feeds and after them
feed_split : (xs ys after after' : Bytes) → Lacks 10 xs → Lacks 10 ys → xs ++ (10 ∷ after) ≡ ys ++ (10 ∷ after') → (xs ≡ ys) × (after ≡ after')
feed_split [] [] after after' lack lack' e = (refl, cc)
feed_split [] (y ∷ ys) after after' lack lack' e = let same : y ≡ 10 = cc in feed_twice y ys lack' same
feed_split (x ∷ xs) [] after after' lack lack' e = let same : x ≡ 10 = cc in feed_twice x xs lack same
feed_split (x ∷ xs) (y ∷ ys) after after' lack lack' e =
    let same : x ≡ y = cc in
    let others : xs ++ (10 ∷ after) ≡ ys ++ (10 ∷ after') = cc in
    let rest = feed_split xs ys after after' (All-tail (λ b. eqb b 10 ≡ false) x xs lack) (All-tail (λ b. eqb b 10 ≡ false) y ys lack') others in
    (ap (λ (z : ℕ). z ∷ xs) same ∙ ap (λ (zs : Bytes). y ∷ zs) rest.0, rest.1)

-- the first lines of two texts that are the same, and what follows them
pub first_line : (line line' : TreeLine) (after after' : Bytes) → HasNumbersBelow (10 ^ 64) line → HasNumbersBelow (10 ^ 64) line'
    → ended line ++ after ≡ ended line' ++ after' → (line ≡ line') × (after ≡ after')
first_line line line' after after' small small' e =
    let split = feed_split (line_text line) (line_text line') after after' (line_lacks_feed line small) (line_lacks_feed line' small')
    (sym (append_assoc (line_text line) (10 ∷ []) after) ∙ (e ∙ append_assoc (line_text line') (10 ∷ []) after')) in
    (line_unique line line' small small' split.0, split.1)

-- as many lines each
pub same_lines : (lines lines' : List TreeLine) (after after' : Bytes) → length lines ≡ length lines' → All (HasNumbersBelow (10 ^ 64)) lines → All (HasNumbersBelow (10 ^ 64)) lines'
    → lines_text lines ++ after ≡ lines_text lines' ++ after' → (lines ≡ lines') × (after ≡ after')
unfolding lines_text
same_lines [] [] after after' count small small' e = (refl, e)
same_lines [] (y ∷ ys) after after' count small small' e = absurd (omega arith)
same_lines (x ∷ xs) [] after after' count small small' e = absurd (omega arith)
same_lines (x ∷ xs) (y ∷ ys) after after' count small small' e =
    let first = first_line x y (lines_text xs ++ after) (lines_text ys ++ after') (All-head (HasNumbersBelow (10 ^ 64)) x xs small) (All-head (HasNumbersBelow (10 ^ 64)) y ys small')
    (sym (append_assoc (ended x) (lines_text xs) after) ∙ (e ∙ append_assoc (ended y) (lines_text ys) after')) in
    let rest = same_lines xs ys after after' (omega arith) (All-tail (HasNumbersBelow (10 ^ 64)) x xs small) (All-tail (HasNumbersBelow (10 ^ 64)) y ys small') first.1 in
    (ap (λ (z : TreeLine). z ∷ xs) first.0 ∙ ap (λ (zs : List TreeLine). y ∷ zs) rest.0, rest.1)

-- how long a line can be
signed_length : (most : ℕ) (z : ℤ) → 0 < most → most ≤ 64 → unsigned_abs z < 10 ^ most → unsigned_abs z < 10 ^ 64 → length (signed_decimal z) ≤ most + 1
signed_length most (pos n) some few small wide = omega (arith, length-decimal-le_wide most n some small wide)
signed_length most (negsuc n) some few small wide = let short : length (decimal (suc n)) ≤ most = length-decimal-le_wide most (suc n) some small wide in omega arith

pub fields_length : (most : ℕ) (zs : List ℤ) → 0 < most → most ≤ 64 → All (λ z. unsigned_abs z < 10 ^ most) zs → All (λ z. unsigned_abs z < 10 ^ 64) zs
    → length (fields_text (map signed_decimal zs)) ≤ length zs * (most + 2)
fields_length most [] some few small wide = omega arith
fields_length most (z ∷ zs) some few small wide =
    let first = signed_length most z some few (All-head (λ z. unsigned_abs z < 10 ^ most) z zs small) (All-head (λ z. unsigned_abs z < 10 ^ 64) z zs wide) in
    let rest = fields_length most zs some few (All-tail (λ z. unsigned_abs z < 10 ^ most) z zs small) (All-tail (λ z. unsigned_abs z < 10 ^ 64) z zs wide) in
    let joined : length (signed_decimal z ++ fields_text (map signed_decimal zs)) ≡ length (signed_decimal z) + length (fields_text (map signed_decimal zs)) = length-append (signed_decimal z) (fields_text (map signed_decimal zs)) in
    let more : suc (length zs) * (most + 2) ≡ length zs * (most + 2) + (most + 2) = suc-mul (length zs) (most + 2) in
    omega arith
