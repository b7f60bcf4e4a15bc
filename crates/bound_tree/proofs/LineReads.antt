-- A text is read as a line exactly where it is the text of that line.
use Rattle.std.proofs.Common.{◌≡◌, ℕ, ◌^◌, ◌<◌, Bool, true, false, ℤ, pos, List, [], ◌∷◌, ◌++◌, map, Option, None, Some, refl, sym, ◌∙◌, ap, subst, arith, eqb, eqb-true}
use Rattle.std.proofs.lemmas.List.Elements.{All-nil, All-cons, All-head, All-tail, All-weaker}
use Rattle.std.specs.Fmt.{decimal, signed_decimal}
use Rattle.std.specs.List.{All}
use Rattle.std.specs.Option.{option_map, option_and_then}
use Rattle.std.specs.Prelude.{unsigned_abs, if◌then◌else◌}
use Rattle.tqd_base.specs.World.{Bytes}
use Rattle.money.specs.Number.{count_of, signed_of}
use Rattle.money.proofs.Counts.{counts_are_shortest, signed_are_shortest}
use Rattle.bound_tree.specs.declared.word.Word.{Word}
use Rattle.bound_tree.specs.declared.word.Word.TheVariants.{Header as HeaderWord, NoPlan as NoPlanWord, Plan as PlanWord, Buy as BuyWord, Split as SplitWord, Row as RowWord, Bound as BoundWord, Empty as EmptyWord, Winners as WinnersWord}
use Rattle.bound_tree.specs.declared.line.TreeLine.{TreeLine}
use Rattle.bound_tree.specs.declared.line.TreeLine.TheVariants.{Header, Header2, NoPlan, Plan, Buy, Split, Row, Bound, Empty, Winners}
use Rattle.bound_tree.specs.Words.{words, numbers_of}
use Rattle.bound_tree.specs.LineWords.{word_text, word_of}
use Rattle.bound_tree.specs.ReadLine.{read_counts, read_row, read_as, read_words, read_text}
use Rattle.bound_tree.specs.LineText.{fields_text, line_word, line_numbers, line_text, IsSpelled}
use Rattle.bound_tree.proofs.LineTexts.{line_words, words_back, word_back, word_from}

-- a number of at most 23 digits
abbrev IsShortPrice : ℤ → Type 0
IsShortPrice z = unsigned_abs z < 10 ^ 23

-- numbers that are read from the texts that write them, and from no others
record IsSpelling {A : Type 0} (read : Bytes → Option A) (write : A → Bytes) (P : A → Type 0) : Type 0 where
  to : (n : A) → P n → read (write n) ≡ Some n
  from : (text : Bytes) (n : A) → read text ≡ Some n → P n × (text ≡ write n)

counts : IsSpelling count_of decimal (λ n. n < 10 ^ 23)
counts = record { to = λ n small. (counts_are_shortest (decimal n) n).1 (small, refl); from = λ text n e. (counts_are_shortest text n).0 e }

signed : IsSpelling signed_of signed_decimal IsShortPrice
signed = record { to = λ z small. (signed_are_shortest (signed_decimal z) z).1 (small, refl); from = λ text z e. (signed_are_shortest text z).0 e }

numbers_back : {A : Type 0} (read : Bytes → Option A) (write : A → Bytes) (P : A → Type 0) → IsSpelling read write P → (ns : List A) → All P ns → numbers_of read (map write ns) ≡ Some ns
numbers_back read write P s [] small = refl
numbers_back read write P s (n ∷ ns) small = rw (s.to n (All-head P n ns small), numbers_back read write P s ns (All-tail P n ns small)) refl

pub record AreWritten {A : Type 0} (write : A → Bytes) (P : A → Type 0) (texts : List Bytes) (ns : List A) : Type 0 where
  pub texts_are : texts ≡ map write ns
  pub small : All P ns

written_none : {A : Type 0} (write : A → Bytes) (P : A → Type 0) (ns : List A) → [] ≡ ns → AreWritten write P [] ns
written_none write P ns e = subst (AreWritten write P []) e (record { texts_are = refl; small = All-nil P })

written_step : {A : Type 0} (read : Bytes → Option A) (write : A → Bytes) (P : A → Type 0) (text : Bytes) (texts : List Bytes) (ns : List A) (first : Option A) (rest : Option (List A))
    → ((n : A) → first ≡ Some n → P n × (text ≡ write n)) → ((ms : List A) → rest ≡ Some ms → AreWritten write P texts ms)
    → option_and_then (λ n. option_map (λ ms. n ∷ ms) rest) first ≡ Some ns → AreWritten write P (text ∷ texts) ns
written_step read write P text texts ns None rest one all e = absurd (cc)
written_step read write P text texts ns (Some n) None one all e = absurd (cc)
written_step read write P text texts ns (Some n) (Some ms) one all e =
    let is : n ∷ ms ≡ ns = cc in
    let o = one n refl in
    let w = all ms refl in
    subst (AreWritten write P (text ∷ texts)) is (record { texts_are = ap (λ (t : Bytes). t ∷ texts) o.1 ∙ ap (λ (ts : List Bytes). write n ∷ ts) w.texts_are; small = All-cons P n ms o.0 w.small })

numbers_from : {A : Type 0} (read : Bytes → Option A) (write : A → Bytes) (P : A → Type 0) → IsSpelling read write P → (texts : List Bytes) (ns : List A)
    → numbers_of read texts ≡ Some ns → AreWritten write P texts ns
numbers_from read write P s [] ns e = let is : [] ≡ ns = cc in written_none write P ns is
numbers_from read write P s (text ∷ texts) ns e =
    written_step read write P text texts ns (read text) (numbers_of read texts) (s.from text) (numbers_from read write P s texts) e

counts_numbers : (ns : List ℕ) → map decimal ns ≡ map signed_decimal (map pos ns)
counts_numbers [] = refl
counts_numbers (n ∷ ns) = ap (λ (ts : List Bytes). decimal n ∷ ts) (counts_numbers ns)

small_numbers : (ns : List ℕ) → All (λ n. n < 10 ^ 23) ns → All IsShortPrice (map pos ns)
small_numbers [] small = All-nil IsShortPrice
small_numbers (n ∷ ns) small =
    All-cons IsShortPrice (pos n) (map pos ns) (All-head (λ m. m < 10 ^ 23) n ns small) (small_numbers ns (All-tail (λ m. m < 10 ^ 23) n ns small))

small_counts : (ns : List ℕ) → All IsShortPrice (map pos ns) → All (λ n. n < 10 ^ 23) ns
small_counts [] small = All-nil (λ n. n < 10 ^ 23)
small_counts (n ∷ ns) small =
    All-cons (λ n. n < 10 ^ 23) n ns (All-head IsShortPrice (pos n) (map pos ns) small) (small_counts ns (All-tail IsShortPrice (pos n) (map pos ns) small))

-- from the words of a line to the line
read_counted : (word : Word) (ns : List ℕ) → ((fields : List Bytes) → read_as word fields ≡ option_and_then (read_counts word) (numbers_of count_of fields))
    → All IsShortPrice (map pos ns) → read_as word (map signed_decimal (map pos ns)) ≡ read_counts word ns
read_counted word ns by small =
    ap (read_as word) (sym (counts_numbers ns)) ∙ (by (map decimal ns)
    ∙ ap (option_and_then (read_counts word)) (numbers_back count_of decimal (λ n. n < 10 ^ 23) counts ns (small_counts ns small)))

row_back : (slot : ℕ) (prices : List ℤ) → All IsShortPrice (pos slot ∷ prices) → read_row (map signed_decimal (pos slot ∷ prices)) ≡ Some (Row slot prices)
row_back slot prices small =
    ap (option_and_then (λ n. option_map (Row n) (numbers_of signed_of (map signed_decimal prices)))) (counts.to slot (All-head IsShortPrice (pos slot) prices small))
    ∙ ap (option_map (Row slot)) (numbers_back signed_of signed_decimal IsShortPrice signed prices (All-tail IsShortPrice (pos slot) prices small))

read_line_as : (line : TreeLine) → IsSpelled line → read_as (line_word line) (map signed_decimal (line_numbers line)) ≡ Some line
unfolding read_as read_counts
read_line_as Header small = read_counted HeaderWord (1 ∷ []) (λ _. refl) small
read_line_as Header2 small = read_counted HeaderWord (2 ∷ []) (λ _. refl) small
read_line_as NoPlan small = read_counted NoPlanWord [] (λ _. refl) small
read_line_as (Plan cost count) small = read_counted PlanWord (cost ∷ count ∷ []) (λ _. refl) small
read_line_as (Buy supplier good units) small = read_counted BuyWord (supplier ∷ good ∷ units ∷ []) (λ _. refl) small
read_line_as (Split supplier segment) small = read_counted SplitWord (supplier ∷ segment ∷ []) (λ _. refl) small
read_line_as (Row slot prices) small = row_back slot prices small
read_line_as (Bound prices) small = ap (option_map Bound) (numbers_back signed_of signed_decimal IsShortPrice signed prices small)
read_line_as (Empty prices) small = ap (option_map Empty) (numbers_back signed_of signed_decimal IsShortPrice signed prices small)
read_line_as Winners small = read_counted WinnersWord [] (λ _. refl) small

-- the text of a line is read as the line
pub read_back : (line : TreeLine) → IsSpelled line → read_text (line_text line) ≡ Some line
unfolding read_text
read_back line small =
    let wide = All-weaker IsShortPrice (λ z. unsigned_abs z < 10 ^ 64) (λ z h. omega arith) (line_numbers line) small in
    ap read_words (line_words line wide)
    ∙ (ap (option_and_then (λ w. read_as w (map signed_decimal (line_numbers line)))) (word_back (line_word line)) ∙ read_line_as line small)

-- a word and numbers that make a line
pub record IsLine (word : Word) (numbers : List ℤ) (line : TreeLine) : Type 0 where
  pub word_is : line_word line ≡ word
  pub numbers_are : line_numbers line ≡ numbers

line_is : (word : Word) (numbers : List ℤ) (here line : TreeLine) → Some here ≡ Some line → line_word here ≡ word → line_numbers here ≡ numbers → IsLine word numbers line
line_is word numbers here line e w n = let is : here ≡ line = cc in subst (IsLine word numbers) is (record { word_is = w; numbers_are = n })

no_line : {P : Type 0} (line : TreeLine) → None ≡ Some line → P
no_line line e = absurd (cc)

version_line : (version : ℕ) (line : TreeLine) (b c : Bool) → eqb version 1 ≡ b → eqb version 2 ≡ c → (if b then Some Header else if c then Some Header2 else None) ≡ Some line
    → IsLine HeaderWord (pos version ∷ []) line
version_line version line true c is also e = line_is HeaderWord (pos version ∷ []) Header line e refl (ap (λ (n : ℕ). pos n ∷ []) (sym (eqb-true version 1 is)))
version_line version line false true is also e = line_is HeaderWord (pos version ∷ []) Header2 line e refl (ap (λ (n : ℕ). pos n ∷ []) (sym (eqb-true version 2 also)))
version_line version line false false is also e = no_line line e

counts_line : (word : Word) (ns : List ℕ) (line : TreeLine) → read_counts word ns ≡ Some line → IsLine word (map pos ns) line
unfolding read_counts
counts_line HeaderWord [] line e = no_line line e
counts_line HeaderWord (v ∷ []) line e = version_line v line (eqb v 1) (eqb v 2) refl refl e
counts_line HeaderWord (v ∷ u ∷ more) line e = no_line line e
counts_line NoPlanWord [] line e = line_is NoPlanWord [] NoPlan line e refl refl
counts_line NoPlanWord (v ∷ more) line e = no_line line e
counts_line PlanWord [] line e = no_line line e
counts_line PlanWord (v ∷ []) line e = no_line line e
counts_line PlanWord (v ∷ u ∷ []) line e = line_is PlanWord (pos v ∷ pos u ∷ []) (Plan v u) line e refl refl
counts_line PlanWord (v ∷ u ∷ t ∷ more) line e = no_line line e
counts_line BuyWord [] line e = no_line line e
counts_line BuyWord (v ∷ []) line e = no_line line e
counts_line BuyWord (v ∷ u ∷ []) line e = no_line line e
counts_line BuyWord (v ∷ u ∷ t ∷ []) line e = line_is BuyWord (pos v ∷ pos u ∷ pos t ∷ []) (Buy v u t) line e refl refl
counts_line BuyWord (v ∷ u ∷ t ∷ s ∷ more) line e = no_line line e
counts_line SplitWord [] line e = no_line line e
counts_line SplitWord (v ∷ []) line e = no_line line e
counts_line SplitWord (v ∷ u ∷ []) line e = line_is SplitWord (pos v ∷ pos u ∷ []) (Split v u) line e refl refl
counts_line SplitWord (v ∷ u ∷ t ∷ more) line e = no_line line e
counts_line RowWord ns line e = no_line line e
counts_line BoundWord ns line e = no_line line e
counts_line EmptyWord ns line e = no_line line e
counts_line WinnersWord [] line e = line_is WinnersWord [] Winners line e refl refl
counts_line WinnersWord (v ∷ more) line e = no_line line e

-- a line with its fields, as it is written
record IsReadOf (word : Word) (fields : List Bytes) (line : TreeLine) : Type 0 where
  word_is : line_word line ≡ word
  fields_are : fields ≡ map signed_decimal (line_numbers line)
  small : IsSpelled line

of_numbers : (word : Word) (fields : List Bytes) (numbers : List ℤ) (line : TreeLine) → IsLine word numbers line → fields ≡ map signed_decimal numbers → All IsShortPrice numbers → IsReadOf word fields line
of_numbers word fields numbers line is f small = record {
  word_is = is.word_is;
  fields_are = f ∙ ap (map signed_decimal) (sym is.numbers_are);
  small = subst (All IsShortPrice) (sym is.numbers_are) small;
}

counted_from : (word : Word) (fields : List Bytes) (line : TreeLine) (o : Option (List ℕ)) → numbers_of count_of fields ≡ o → option_and_then (read_counts word) o ≡ Some line → IsReadOf word fields line
counted_from word fields line None is e = no_line line e
counted_from word fields line (Some ns) is e =
    let w = numbers_from count_of decimal (λ n. n < 10 ^ 23) counts fields ns is in
    of_numbers word fields (map pos ns) line (counts_line word ns line e) (w.texts_are ∙ counts_numbers ns) (small_numbers ns w.small)

priced_from : (word : Word) (fields : List Bytes) (line : TreeLine) (make : List ℤ → TreeLine) (o : Option (List ℤ)) → ((ps : List ℤ) → IsLine word ps (make ps))
    → numbers_of signed_of fields ≡ o → option_map make o ≡ Some line → IsReadOf word fields line
priced_from word fields line make None by is e = no_line line e
priced_from word fields line make (Some ps) by is e =
    let same : make ps ≡ line = cc in
    let w = numbers_from signed_of signed_decimal IsShortPrice signed fields ps is in
    of_numbers word fields ps line (subst (IsLine word ps) same (by ps)) w.texts_are w.small

slot_from : (text : Bytes) (fields : List Bytes) (line : TreeLine) (c : Option ℕ) (o : Option (List ℤ)) → count_of text ≡ c → numbers_of signed_of fields ≡ o
    → option_and_then (λ n. option_map (Row n) o) c ≡ Some line → IsReadOf RowWord (text ∷ fields) line
slot_from text fields line None o is also e = no_line line e
slot_from text fields line (Some n) None is also e = no_line line e
slot_from text fields line (Some n) (Some ps) is also e =
    let same : Row n ps ≡ line = cc in
    let slot = counts.from text n is in
    let w = numbers_from signed_of signed_decimal IsShortPrice signed fields ps also in
    of_numbers RowWord (text ∷ fields) (pos n ∷ ps) line (subst (IsLine RowWord (pos n ∷ ps)) same (record { word_is = refl; numbers_are = refl }))
    (ap (λ (t : Bytes). t ∷ fields) slot.1 ∙ ap (λ (ts : List Bytes). decimal n ∷ ts) w.texts_are) (All-cons IsShortPrice (pos n) ps slot.0 w.small)

row_from : (fields : List Bytes) (line : TreeLine) → read_row fields ≡ Some line → IsReadOf RowWord fields line
row_from [] line e = no_line line e
row_from (text ∷ fields) line e = slot_from text fields line (count_of text) (numbers_of signed_of fields) refl refl e

as_from : (word : Word) (fields : List Bytes) (line : TreeLine) → read_as word fields ≡ Some line → IsReadOf word fields line
unfolding read_as
as_from HeaderWord fields line e = counted_from HeaderWord fields line (numbers_of count_of fields) refl e
as_from NoPlanWord fields line e = counted_from NoPlanWord fields line (numbers_of count_of fields) refl e
as_from PlanWord fields line e = counted_from PlanWord fields line (numbers_of count_of fields) refl e
as_from BuyWord fields line e = counted_from BuyWord fields line (numbers_of count_of fields) refl e
as_from SplitWord fields line e = counted_from SplitWord fields line (numbers_of count_of fields) refl e
as_from RowWord fields line e = row_from fields line e
as_from BoundWord fields line e = priced_from BoundWord fields line Bound (numbers_of signed_of fields) (λ ps. record { word_is = refl; numbers_are = refl }) refl e
as_from EmptyWord fields line e = priced_from EmptyWord fields line Empty (numbers_of signed_of fields) (λ ps. record { word_is = refl; numbers_are = refl }) refl e
as_from WinnersWord fields line e = counted_from WinnersWord fields line (numbers_of count_of fields) refl e

word_read : (text word : Bytes) (fields : List Bytes) (line : TreeLine) (o : Option Word) → words text ≡ word ∷ fields → word_of word ≡ o
    → option_and_then (λ w. read_as w fields) o ≡ Some line → IsSpelled line × (text ≡ line_text line)
unfolding line_text
word_read text word fields line None cut is e = no_line line e
word_read text word fields line (Some w) cut is e =
    let r = as_from w fields line e in
    let first : word ≡ word_text (line_word line) = word_from word w is ∙ ap word_text (sym r.word_is) in
    (r.small, words_back text word fields cut ∙ (ap (λ (t : Bytes). t ++ fields_text fields) first ∙ ap (λ (fs : List Bytes). word_text (line_word line) ++ fields_text fs) r.fields_are))

words_read : (text : Bytes) (line : TreeLine) (ws : List Bytes) → words text ≡ ws → read_words ws ≡ Some line → IsSpelled line × (text ≡ line_text line)
words_read text line [] cut e = no_line line e
words_read text line (word ∷ fields) cut e = word_read text word fields line (word_of word) cut refl e

-- a text that is read as a line is its text
pub read_from : (text : Bytes) (line : TreeLine) → read_text text ≡ Some line → IsSpelled line × (text ≡ line_text line)
unfolding read_text
read_from text line e = words_read text line (words text) refl e
