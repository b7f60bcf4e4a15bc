-- The text of a line, and the words in it.
use Rattle.std.proofs.Common.{◌≡◌, ℕ, suc, ◌^◌, ◌<◌, ◌≤◌, Bool, true, false, ℤ, pos, negsuc, List, [], ◌∷◌, ◌++◌, map, Some, refl, sym, ◌∙◌, ap, subst, arith, eqb, leb, append-nil}
use Rattle.std.proofs.lemmas.Bool.{and_parts, leb-true}
use Rattle.std.proofs.lemmas.Bool.Decides.{nat_tests}
use Rattle.std.proofs.lemmas.Fmt.{decimal_is_IsNumeral_wide}
use Rattle.std.proofs.lemmas.List.Elements.{All-nil, All-cons, All-head, All-tail}
use Rattle.std.proofs.lemmas.List.Splits.{slice_split_none, slice_split_at, join_with_byte-slice_split}
use Rattle.std.proofs.lemmas.Slice.Eq.{bytes_eq-Decides}
use Rattle.std.specs.Char.{is_ascii_digit}
use Rattle.std.specs.Fmt.{decimal, signed_decimal}
use Rattle.std.specs.List.{All, join_with_byte, find, list_all}
use Rattle.std.specs.Prelude.{unsigned_abs}
use Rattle.std.specs.Str.{all_ascii_digits, bytes_eq}
use Rattle.tqd_base.specs.World.{Bytes}
use Rattle.money.proofs.Numerals.{own}
use Rattle.money.proofs.Digits.{digit_value-of}
use Rattle.bound_tree.specs.declared.word.Word.{Word}
use Rattle.bound_tree.specs.declared.word.Word.TheVariants.{Header, NoPlan, Plan, Buy, Split, Row, Bound, Empty, Winners}
use Rattle.bound_tree.specs.declared.line.TreeLine.{TreeLine}
use Rattle.bound_tree.specs.Words.{words}
use Rattle.bound_tree.specs.LineWords.{word_text, word_of, all_words}
use Rattle.bound_tree.specs.LineText.{fields_text, line_word, line_numbers, line_text, HasNumbersBelow}

-- no byte of a text is this one
abbrev pub Lacks : ℕ → Bytes → Type 0
Lacks byte text = All (λ b. eqb b byte ≡ false) text

digit_lacks : (byte c : ℕ) → byte < 45 → is_ascii_digit c ≡ true → eqb c byte ≡ false
digit_lacks byte c low digit = let d = digit_value-of c digit in let from : 48 ≤ c = d.2 in grind (arith, nat_tests)

digits_lack : (byte : ℕ) (text : Bytes) → byte < 45 → all_ascii_digits text ≡ true → Lacks byte text
digits_lack byte [] low digits = All-nil (λ b. eqb b byte ≡ false)
digits_lack byte (c ∷ cs) low digits =
    let p = and_parts (is_ascii_digit c) (all_ascii_digits cs) digits in
    All-cons (λ b. eqb b byte ≡ false) c cs (digit_lacks byte c low p.0) (digits_lack byte cs low p.1)

pub all_digits : (n : ℕ) → n < 10 ^ 64 → all_ascii_digits (decimal n) ≡ true
all_digits n small = own.from (decimal n) (decimal_is_IsNumeral_wide n small).0.1

pub decimal_lacks : (byte n : ℕ) → byte < 45 → n < 10 ^ 64 → Lacks byte (decimal n)
decimal_lacks byte n low small = digits_lack byte (decimal n) low (all_digits n small)

pub signed_lacks : (byte : ℕ) (z : ℤ) → byte < 45 → unsigned_abs z < 10 ^ 64 → Lacks byte (signed_decimal z)
signed_lacks byte (pos n) low small = decimal_lacks byte n low small
signed_lacks byte (negsuc n) low small =
    let differ : eqb 45 byte ≡ false = grind (arith, nat_tests) in
    All-cons (λ b. eqb b byte ≡ false) 45 (decimal (suc n)) differ (decimal_lacks byte (suc n) low small)

high_lacks : (byte c : ℕ) → byte < 45 → leb 45 c ≡ true → eqb c byte ≡ false
high_lacks byte c low high = let from : 45 ≤ c = leb-true 45 c high in grind (arith, nat_tests)

letters_lack : (byte : ℕ) (text : Bytes) → byte < 45 → list_all (λ c. leb 45 c) text ≡ true → Lacks byte text
letters_lack byte [] low letters = All-nil (λ b. eqb b byte ≡ false)
letters_lack byte (c ∷ cs) low letters =
    let p = and_parts (leb 45 c) (list_all (λ c. leb 45 c) cs) letters in
    All-cons (λ b. eqb b byte ≡ false) c cs (high_lacks byte c low p.0) (letters_lack byte cs low p.1)

pub word_lacks : (byte : ℕ) (word : Word) → byte < 45 → Lacks byte (word_text word)
word_lacks byte Header low = letters_lack byte (word_text Header) low refl
word_lacks byte NoPlan low = letters_lack byte (word_text NoPlan) low refl
word_lacks byte Plan low = letters_lack byte (word_text Plan) low refl
word_lacks byte Buy low = letters_lack byte (word_text Buy) low refl
word_lacks byte Split low = letters_lack byte (word_text Split) low refl
word_lacks byte Row low = letters_lack byte (word_text Row) low refl
word_lacks byte Bound low = letters_lack byte (word_text Bound) low refl
word_lacks byte Empty low = letters_lack byte (word_text Empty) low refl
word_lacks byte Winners low = letters_lack byte (word_text Winners) low refl

pub fields_lack : (byte : ℕ) (zs : List ℤ) → byte < 45 → All (λ z. unsigned_abs z < 10 ^ 64) zs → All (Lacks byte) (map signed_decimal zs)
fields_lack byte [] low small = All-nil (Lacks byte)
fields_lack byte (z ∷ zs) low small =
    All-cons (Lacks byte) (signed_decimal z) (map signed_decimal zs) (signed_lacks byte z low (All-head (λ z. unsigned_abs z < 10 ^ 64) z zs small))
    (fields_lack byte zs low (All-tail (λ z. unsigned_abs z < 10 ^ 64) z zs small))

-- the words of a word and fields
pub words_spaced : (word : Bytes) (fields : List Bytes) → Lacks 32 word → All (Lacks 32) fields → words (word ++ fields_text fields) ≡ word ∷ fields
words_spaced word [] lacks others = ap words (append-nil word) ∙ slice_split_none (λ b. eqb b 32) word lacks
words_spaced word (field ∷ fields) lacks others =
    slice_split_at (λ b. eqb b 32) word 32 (field ++ fields_text fields) lacks refl
    ∙ ap (λ (ws : List Bytes). word ∷ ws) (words_spaced field fields (All-head (Lacks 32) field fields others) (All-tail (Lacks 32) field fields others))

joined : (word : Bytes) (fields : List Bytes) → join_with_byte 32 (word ∷ fields) ≡ word ++ fields_text fields
joined word [] = sym (append-nil word)
joined word (field ∷ fields) = ap (λ (t : Bytes). word ++ (32 ∷ t)) (joined field fields)

-- a text of these words
pub words_back : (text word : Bytes) (fields : List Bytes) → words text ≡ word ∷ fields → text ≡ word ++ fields_text fields
words_back text word fields e = sym (join_with_byte-slice_split 32 text) ∙ (ap (join_with_byte 32) e ∙ joined word fields)

pub line_words : (line : TreeLine) → HasNumbersBelow (10 ^ 64) line → words (line_text line) ≡ word_text (line_word line) ∷ map signed_decimal (line_numbers line)
unfolding line_text
line_words line small = words_spaced (word_text (line_word line)) (map signed_decimal (line_numbers line)) (word_lacks 32 (line_word line) (omega arith)) (fields_lack 32 (line_numbers line) (omega arith) small)

-- the word that is written
pub word_back : (word : Word) → word_of (word_text word) ≡ Some word
unfolding word_of
word_back Header = refl
word_back NoPlan = refl
word_back Plan = refl
word_back Buy = refl
word_back Split = refl
word_back Row = refl
word_back Bound = refl
word_back Empty = refl
word_back Winners = refl

found_step : (p : Word → Bool) (v w : Word) (ws : List Word) (b : Bool) → p v ≡ b → (find p ws ≡ Some w → p w ≡ true) → find p (v ∷ ws) ≡ Some w → p w ≡ true
found_step p v w ws true is more e = let first = rw is at e in let same : v ≡ w = cc in subst (λ (u : Word). p u ≡ true) same is
found_step p v w ws false is more e = let rest = rw is at e in more rest

found : (p : Word → Bool) (ws : List Word) (w : Word) → find p ws ≡ Some w → p w ≡ true
found p [] w e = absurd (cc)
found p (v ∷ ws) w e = found_step p v w ws (p v) refl (found p ws w) e

pub word_from : (text : Bytes) (word : Word) → word_of text ≡ Some word → text ≡ word_text word
unfolding word_of
word_from text word e = (bytes_eq-Decides text (word_text word)).0 (found (λ w. bytes_eq text (word_text w)) all_words word e)
