-- What reading a line and writing it say of each other.
use Rattle.std.proofs.Common.{◌≡◌, ◌↔◌, ◌≢◌, ℕ, ◌+◌, ◌*◌, ◌^◌, ◌<◌, ◌≤◌, Bool, true, false, ℤ, pos, [], ◌∷◌, map, length, None, Some, refl, sym, ◌∙◌, ap, subst, arith, eqb, leb, eq-eqb, true≢false, length-append}
use Rattle.std.proofs.lemmas.Bool.{le-leb, leb-true}
use Rattle.std.proofs.lemmas.List.Elements.{All-nil, All-cons, All-weaker, All-append}
use Rattle.std.specs.Fmt.{signed_decimal}
use Rattle.std.specs.List.{All}
use Rattle.std.specs.Prelude.{unsigned_abs, if◌then◌else◌}
use Rattle.tqd_base.specs.World.{Bytes}
use Rattle.tqd_base.specs.declared.limits.TheConstants.{LINE_MAX}
use Rattle.tqd_instance.specs.declared.job.Job.{Job}
use Rattle.tqd_instance.specs.Job.{suppliers}
use Rattle.tqd_instance.proofs.Jobs.{job_in_range}
use Rattle.tqd_instance.proofs.SumLemmas.{sum_to-bound}
use Rattle.interval_box.specs.declared.boxes.IntervalBox.{IntervalBox}
use Rattle.interval_box.specs.Ranges.{IsBoxOf}
use Rattle.bound_tree.specs.declared.word.Word.{Word}
use Rattle.bound_tree.specs.declared.word.Word.TheVariants.{Header as HeaderWord, NoPlan as NoPlanWord, Plan as PlanWord, Buy as BuyWord, Split as SplitWord, Row as RowWord, Bound as BoundWord, Empty as EmptyWord, Winners as WinnersWord}
use Rattle.bound_tree.specs.declared.leaf.Leaf.{Leaf}
use Rattle.bound_tree.specs.declared.leaf.Leaf.TheVariants.{Bound as BoundLeaf, Empty as EmptyLeaf, Winners as WinnersLeaf}
use Rattle.bound_tree.specs.declared.line.TreeLine.{TreeLine}
use Rattle.bound_tree.specs.declared.line.TreeLine.TheVariants.{Header, Header2, NoPlan, Plan, Buy, Split, Row, Bound, Empty, Winners}
use Rattle.bound_tree.specs.Prices.{Prices, Fits, IsPrice, count_of, places_to}
use Rattle.bound_tree.specs.declared.slots.TheConstants.{SLOTS_MAX}
use Rattle.bound_tree.specs.Root.{root_of}
use Rattle.bound_tree.specs.SlotTree.{bound_by, empty_by, by_winners, Item, row_item, split_item, leaf_item}
use Rattle.bound_tree.specs.SlotText.{item_line}
use Rattle.bound_tree.specs.TextLaws.{ItemFits}
use Rattle.bound_tree.specs.Kills.{LeafFits}
use Rattle.bound_tree.specs.LineHead.{row_prices}
use Rattle.bound_tree.specs.LineText.{fields_text, line_word, line_numbers, line_text, HasNumbersBelow, IsSpelled}
use Rattle.bound_tree.specs.LineWords.{word_text}
use Rattle.bound_tree.specs.ReadLine.{read_text, read_line}
use Rattle.bound_tree.specs.TreeText.{all_prices, leaf_line}
use Rattle.bound_tree.proofs.BoxPlaces.{count_few}
use Rattle.bound_tree.proofs.LineReads.{read_back, read_from}
use Rattle.bound_tree.proofs.Roots.{root_is}
use Rattle.bound_tree.proofs.Signed.{abs_le}
use Rattle.bound_tree.proofs.Unique.{line_lacks_feed, fields_length}

from_test : (text : Bytes) (line : TreeLine) (b : Bool) → leb (length text) LINE_MAX ≡ b → (if b then read_text text else None) ≡ Some line
    → IsSpelled line × (text ≡ line_text line) × (length text ≤ LINE_MAX)
from_test text line true is e = let r = read_from text line e in (r.0, r.1, leb-true _ _ is)
from_test text line false is e = absurd (cc)

to_line : (text : Bytes) (line : TreeLine) → IsSpelled line → text ≡ line_text line → length text ≤ LINE_MAX → read_line text ≡ Some line
unfolding read_line
to_line text line spelled e short = let is : leb (length text) LINE_MAX ≡ true = le-leb _ _ short in rw is (ap read_text e ∙ read_back line spelled)

pub read_as_text : (text : Bytes) (line : TreeLine) → (read_line text ≡ Some line) ↔ (IsSpelled line × (text ≡ line_text line) × (length text ≤ LINE_MAX))
unfolding read_line
read_as_text text line = (from_test text line (leb (length text) LINE_MAX) refl, λ h. to_line text line h.0 h.1 h.2)

not_feed : (b : ℕ) → eqb b 10 ≡ false → b ≢ 10
not_feed b is e = true≢false (sym (eq-eqb b 10 e) ∙ is)

pub no_feed : (line : TreeLine) → IsSpelled line → All (λ b. b ≢ 10) (line_text line)
no_feed line spelled =
    let wide = All-weaker (λ z. unsigned_abs z < 10 ^ 23) (λ z. unsigned_abs z < 10 ^ 64) (λ z h. omega arith) (line_numbers line) spelled in
    All-weaker (λ b. eqb b 10 ≡ false) (λ b. b ≢ 10) not_feed (line_text line) (line_lacks_feed line wide)

word_short : (word : Word) → length (word_text word) ≤ 8
word_short HeaderWord = omega arith
word_short NoPlanWord = omega arith
word_short PlanWord = omega arith
word_short BuyWord = omega arith
word_short SplitWord = omega arith
word_short RowWord = omega arith
word_short BoundWord = omega arith
word_short EmptyWord = omega arith
word_short WinnersWord = omega arith

-- how long a line is
line_length : (most : ℕ) (line : TreeLine) → 0 < most → most ≤ 64 → HasNumbersBelow (10 ^ most) line → HasNumbersBelow (10 ^ 64) line
    → length (line_text line) ≤ 8 + length (line_numbers line) * (most + 2)
unfolding line_text
line_length most line some few small wide =
    omega (arith, length-append (word_text (line_word line)) (fields_text (map signed_decimal (line_numbers line))), word_short (line_word line), fields_length most (line_numbers line) some few small wide)

few_numbers : (line : TreeLine) → row_prices line ≡ [] → length (line_numbers line) ≤ 3
few_numbers Header e = omega arith
few_numbers Header2 e = omega arith
few_numbers NoPlan e = omega arith
few_numbers (Plan cost count) e = omega arith
few_numbers (Buy supplier good units) e = omega arith
few_numbers (Split supplier segment) e = omega arith
few_numbers (Row slot prices) e = let none = ap length e in omega arith
few_numbers (Bound prices) e = let none = ap length e in omega arith
few_numbers (Empty prices) e = let none = ap length e in omega arith
few_numbers Winners e = omega arith

-- a line of counts is read back
pub counts_are_read : (line : TreeLine) → IsSpelled line → row_prices line ≡ [] → read_line (line_text line) ≡ Some line
counts_are_read line spelled none =
    let wide = All-weaker (λ z. unsigned_abs z < 10 ^ 23) (λ z. unsigned_abs z < 10 ^ 64) (λ z h. omega arith) (line_numbers line) spelled in
    let long = line_length 23 line (omega arith) (omega arith) spelled wide in
    let few = few_numbers line none in
    to_line (line_text line) line spelled refl (omega arith)

price_small : (z : ℤ) → IsPrice z → unsigned_abs z ≤ 4000000000000000
price_small z p = abs_le z 4000000000000000 p.not_less p.not_more

few_places : (job : Job) (area : IntervalBox) → IsBoxOf job area → places_to area (suppliers job) ≤ 1024
unfolding places_to
few_places job area b =
    let each = sum_to-bound (suppliers job) 16 (count_of area) (count_few job area b) in
    let few = (job_in_range job).few_suppliers in
    omega arith

row_is_read : (job : Job) (area : IntervalBox) (row : Prices) (line : TreeLine) → IsBoxOf job area → Fits job area row → line_numbers line ≡ all_prices row → read_line (line_text line) ≡ Some line
row_is_read job area row line b fits same =
    let prices = All-append IsPrice row.goods row.places fits.good_prices fits.place_prices in
    let small = All-weaker IsPrice (λ z. unsigned_abs z < 10 ^ 16) (λ z p. let h = price_small z p in omega arith) (all_prices row) prices in
    let spelled = All-weaker IsPrice (λ z. unsigned_abs z < 10 ^ 23) (λ z p. let h = price_small z p in omega arith) (all_prices row) prices in
    let wide = All-weaker IsPrice (λ z. unsigned_abs z < 10 ^ 64) (λ z p. let h = price_small z p in omega arith) (all_prices row) prices in
    let back = sym same in
    let long = line_length 16 line (omega arith) (omega arith) (subst (All (λ z. unsigned_abs z < 10 ^ 16)) back small) (subst (All (λ z. unsigned_abs z < 10 ^ 64)) back wide) in
    let count = ap length same ∙ length-append row.goods row.places in
    let short : length (line_text line) ≤ LINE_MAX = omega (arith, long, count, fits.goods, fits.places, few_places job area b, (job_in_range job).few_goods) in
    to_line (line_text line) line (subst (All (λ z. unsigned_abs z < 10 ^ 23)) back spelled) refl short

-- the line of a leaf that fits a box is read back
pub leaf_is_read : (job : Job) (area : IntervalBox) (leaf : Leaf) → IsBoxOf job area → LeafFits job area leaf → read_line (line_text (leaf_line leaf)) ≡ Some (leaf_line leaf)
leaf_is_read job area (BoundLeaf row) b fits = row_is_read job area row (Bound (all_prices row)) b fits refl
leaf_is_read job area (EmptyLeaf row) b fits = row_is_read job area row (Empty (all_prices row)) b fits refl
leaf_is_read job area WinnersLeaf b fits = counts_are_read Winners (λ k d below. absurd (omega arith)) refl

root_row_is_read : (job : Job) (n : ℕ) (row : Prices) → n < SLOTS_MAX → Fits job (root_of job) row → read_line (line_text (Row n (all_prices row))) ≡ Some (Row n (all_prices row))
root_row_is_read job n row below fits =
    let prices = All-append IsPrice row.goods row.places fits.good_prices fits.place_prices in
    let numbers = pos n ∷ all_prices row in
    let small : All (λ z. unsigned_abs z < 10 ^ 16) numbers = All-cons (λ z. unsigned_abs z < 10 ^ 16) (pos n) (all_prices row) (omega arith)
    (All-weaker IsPrice (λ z. unsigned_abs z < 10 ^ 16) (λ z p. let h = price_small z p in omega arith) (all_prices row) prices) in
    let spelled = All-weaker (λ z. unsigned_abs z < 10 ^ 16) (λ z. unsigned_abs z < 10 ^ 23) (λ z h. omega arith) numbers small in
    let wide = All-weaker (λ z. unsigned_abs z < 10 ^ 16) (λ z. unsigned_abs z < 10 ^ 64) (λ z h. omega arith) numbers small in
    let long = line_length 16 (Row n (all_prices row)) (omega arith) (omega arith) small wide in
    let count = length-append row.goods row.places in
    let short : length (line_text (Row n (all_prices row))) ≤ LINE_MAX =
    omega (arith, long, count, fits.goods, fits.places, few_places job (root_of job) (root_is job).of_job, (job_in_range job).few_goods) in
    to_line (line_text (Row n (all_prices row))) (Row n (all_prices row)) spelled refl short

-- a line of one number is read back
slot_is_read : (n : ℕ) (line : TreeLine) → line_numbers line ≡ pos n ∷ [] → n < 10 ^ 23 → read_line (line_text line) ≡ Some line
slot_is_read n line same small =
    let back = sym same in
    let spelled = subst (All (λ z. unsigned_abs z < 10 ^ 23)) back (All-cons (λ z. unsigned_abs z < 10 ^ 23) (pos n) [] small (All-nil (λ z. unsigned_abs z < 10 ^ 23))) in
    let wide = All-weaker (λ z. unsigned_abs z < 10 ^ 23) (λ z. unsigned_abs z < 10 ^ 64) (λ z h. omega arith) (line_numbers line) spelled in
    let long = line_length 23 line (omega arith) (omega arith) spelled wide in
    let count = ap length same in
    to_line (line_text line) line spelled refl (omega arith)

-- the line of an item is read back
pub item_is_read : (job : Job) (item : Item) → ItemFits job item → read_line (line_text (item_line item)) ≡ Some (item_line item)
item_is_read job (row_item n row) fits = root_row_is_read job n row fits.0 fits.1
item_is_read job (split_item i s) fits =
    counts_are_read (Split i s) (All-cons (λ z. unsigned_abs z < 10 ^ 23) (pos i) (pos s ∷ []) fits.0 (All-cons (λ z. unsigned_abs z < 10 ^ 23) (pos s) [] fits.1 (All-nil (λ z. unsigned_abs z < 10 ^ 23)))) refl
item_is_read job (leaf_item (bound_by n)) fits = slot_is_read n (Bound (pos n ∷ [])) refl fits
item_is_read job (leaf_item (empty_by n)) fits = slot_is_read n (Empty (pos n ∷ [])) refl fits
item_is_read job (leaf_item by_winners) fits = counts_are_read Winners (All-nil (λ z. unsigned_abs z < 10 ^ 23)) refl
