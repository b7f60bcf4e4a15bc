-- The prices of a range as prices of the root: 0 before it, its own, and 0 behind it.
use Rattle.std.proofs.Common.{ℕ, zero, suc, ◌≡◌, ◌+◌, ◌-◌, ◌<◌, ◌≤◌, max, ◌&&◌, Bool, true, false, ℤ, pos, List, [], ◌∷◌, ◌++◌, map, length, get_or, take, drop, replicate, refl, ap, sym, ◌∙◌, arith, add-one, append-nil, append_assoc, length-drop, leb}
use Rattle.std.proofs.Math.Seq.{take-suc}
use Rattle.std.proofs.lemmas.Bool.{le-leb, lt-leb}
use Rattle.std.proofs.lemmas.List.{get_or-drop}
use Rattle.std.specs.Fmt.{decimal, signed_decimal}
use Rattle.tqd_base.specs.World.{Bytes}
use Rattle.tqd_instance.specs.declared.job.Job.{Job}
use Rattle.tqd_instance.specs.Job.{suppliers, segments}
use Rattle.interval_box.specs.declared.boxes.IntervalBox.{IntervalBox}
use Rattle.interval_box.specs.Ranges.{low_of, high_of}
use Rattle.bound_tree.specs.declared.line.TreeLine.TheVariants.{Row}
use Rattle.bound_tree.specs.declared.word.Word.TheVariants.{Row as RowWord}
use Rattle.bound_tree.specs.LineWords.{word_text}
use Rattle.bound_tree.specs.LineText.{fields_text, counts_text, line_text}
use Rattle.bound_tree.specs.TreeText.{all_prices, ended}
use Rattle.bound_tree.specs.Prices.{Prices, first_of, count_of, place_of, places_to, price_at}
use Rattle.bound_tree.specs.Root.{root_of}
use Rattle.bound_tree.specs.OtherBox.{prices_from, places_by, admits, price_or_zero, root_places, widened}
use Rattle.bound_tree.specs.OtherPlaces.{price_from, price_from_or_zero}
use Rattle.bound_tree.proofs.OtherBoxes.{prices_from-same}
use Rattle.bound_tree.proofs.RootValues.{root_first, root_count}
use Rattle.bound_tree.proofs.Unfolding.{widened_goods, widened_places}
use Rattle.bound_tree.proofs.Texts.{map_append, fields_append}

prices_from-split : (a m n : ℕ) (f : ℕ → ℤ) → prices_from a (m + n) f ≡ prices_from a m f ++ prices_from (a + m) n f
unfolding prices_from
prices_from-split a m zero f = ap (λ (k : ℕ). prices_from a k f) (none m) ∙ sym (append-nil (prices_from a m f))
  where
    none : (m : ℕ) → m + 0 ≡ m
    none m = omega arith
prices_from-split a m (suc n) f =
    let at : a + (m + n) ≡ a + m + n = omega arith in
    let next : m + suc n ≡ suc (m + n) = omega arith in
    ap (λ (k : ℕ). prices_from a k f) next ∙ (ap (λ (xs : List ℤ). xs ++ f (a + (m + n)) ∷ []) (prices_from-split a m n f)
    ∙ (ap (λ (k : ℕ). (prices_from a m f ++ prices_from (a + m) n f) ++ f k ∷ []) at ∙ append_assoc (prices_from a m f) (prices_from (a + m) n f) (f (a + m + n) ∷ [])))

zeros_last : (n : ℕ) → replicate n (pos 0) ++ pos 0 ∷ [] ≡ replicate (suc n) (pos 0)
zeros_last zero = refl
zeros_last (suc n) = ap (λ (xs : List ℤ). pos 0 ∷ xs) (zeros_last n)

prices_from-zeros : (a n : ℕ) (f : ℕ → ℤ) → ((k : ℕ) → k < n → f (a + k) ≡ pos 0) → prices_from a n f ≡ replicate n (pos 0)
unfolding prices_from
prices_from-zeros a zero f none = refl
prices_from-zeros a (suc n) f none =
    ap (λ (xs : List ℤ). xs ++ f (a + n) ∷ []) (prices_from-zeros a n f (λ k below. none k (omega arith)))
    ∙ (ap (λ (z : ℤ). replicate n (pos 0) ++ z ∷ []) (none n (omega arith)) ∙ zeros_last n)

prices_from-drop : (xs : List ℤ) (p a n : ℕ) → p + n ≤ length xs → prices_from a n (λ j. get_or xs (p + (j - a)) (pos 0)) ≡ take n (drop p xs)
unfolding prices_from
prices_from-drop xs p a zero fits = refl
prices_from-drop xs p a (suc n) fits =
    let at : p + (a + n - a) ≡ p + n = omega arith in
    ap (λ (ys : List ℤ). ys ++ get_or xs (p + (a + n - a)) (pos 0) ∷ []) (prices_from-drop xs p a n (omega arith))
    ∙ (ap (λ (k : ℕ). take n (drop p xs) ++ get_or xs k (pos 0) ∷ []) at
    ∙ (ap (λ (z : ℤ). take n (drop p xs) ++ z ∷ []) (sym (get_or-drop p xs n (pos 0))) ∙ sym (take-suc (drop p xs) n (pos 0) (omega (arith, length-drop p xs)))))

before : (area : IntervalBox) (i j : ℕ) → j < low_of area i → admits area i j ≡ false
before area i j below = rw (lt-leb (low_of area i) j below) refl

and_false : (b : Bool) → (b && false) ≡ false
and_false true = refl
and_false false = refl

past : (area : IntervalBox) (i j : ℕ) → high_of area i < j → admits area i j ≡ false
past area i j above = rw (lt-leb j (high_of area i) above) (and_false (leb (low_of area i) j))

not_there : (area : IntervalBox) (places : List ℤ) (at i j : ℕ) → admits area i j ≡ false → price_from_or_zero area places at i j ≡ pos 0
not_there area places at i j e = rw e refl

there : (area : IntervalBox) (places : List ℤ) (at i j : ℕ) → low_of area i ≤ j → j ≤ high_of area i → price_from_or_zero area places at i j ≡ price_from area places at i j
there area places at i j from to = rw (le-leb (low_of area i) j from, le-leb j (high_of area i) to) refl

range_parts : (area : IntervalBox) (i segments : ℕ) → low_of area i ≤ high_of area i → high_of area i ≤ segments
    → ((first_of area i - 1) + (count_of area i + (segments - high_of area i)) ≡ segments) × (1 + (first_of area i - 1) ≡ first_of area i)
    × (first_of area i + count_of area i ≡ high_of area i + 1) × (low_of area i ≤ first_of area i)
unfolding first_of count_of
range_parts area i segments ordered within = (omega (arith, ordered, within), omega arith, omega (arith, ordered), omega arith)

first_before : (area : IntervalBox) (i k : ℕ) → k < first_of area i - 1 → 1 + k < low_of area i
unfolding first_of
first_before area i k below = omega arith

-- the prices of a range of so many segments
pub range_prices : (area : IntervalBox) (places : List ℤ) (at i segments : ℕ) → low_of area i ≤ high_of area i → high_of area i ≤ segments → at + count_of area i ≤ length places
    → prices_from 1 segments (price_from_or_zero area places at i)
    ≡ replicate (first_of area i - 1) (pos 0) ++ (take (count_of area i) (drop at places) ++ replicate (segments - high_of area i) (pos 0))
unfolding price_at
range_prices area places at i segments ordered within fits =
    let p = range_parts area i segments ordered within in
    let f = price_from_or_zero area places at i in
    let first = first_of area i in
    let count = count_of area i in
    let past_count = segments - high_of area i in
    ap (λ (n : ℕ). prices_from 1 n f) (sym p.0)
    ∙ (prices_from-split 1 (first - 1) (count + past_count) f
    ∙ (ap (λ (xs : List ℤ). xs ++ prices_from (1 + (first - 1)) (count + past_count) f)
    (prices_from-zeros 1 (first - 1) f (λ k below. not_there area places at i (1 + k) (before area i (1 + k) (first_before area i k below))))
    ∙ ap (λ (xs : List ℤ). replicate (first - 1) (pos 0) ++ xs)
    (ap (λ (n : ℕ). prices_from n (count + past_count) f) p.1
    ∙ (prices_from-split first count past_count f
    ∙ (ap (λ (xs : List ℤ). xs ++ prices_from (first + count) past_count f)
    (prices_from-same first count f (λ j. get_or places (at + (j - first)) (pos 0)) (λ k below. there area places at i (first + k) (omega (arith, p.3)) (omega (arith, p.2)))
    ∙ prices_from-drop places at first count fits)
    ∙ ap (λ (xs : List ℤ). take count (drop at places) ++ xs)
    (prices_from-zeros (first + count) past_count f (λ k below. not_there area places at i (first + count + k) (past area i (first + count + k) (omega (arith, p.2))))))))))

-- their text
pub range_text : (area : IntervalBox) (places : List ℤ) (at i segments : ℕ) → low_of area i ≤ high_of area i → high_of area i ≤ segments → at + count_of area i ≤ length places
    → fields_text (map signed_decimal (prices_from 1 segments (price_from_or_zero area places at i)))
    ≡ fields_text (map signed_decimal (replicate (first_of area i - 1) (pos 0)))
    ++ (fields_text (map signed_decimal (take (count_of area i) (drop at places))) ++ fields_text (map signed_decimal (replicate (segments - high_of area i) (pos 0))))
range_text area places at i segments ordered within fits =
    let before = replicate (first_of area i - 1) (pos 0) in
    let here = take (count_of area i) (drop at places) in
    let after = replicate (segments - high_of area i) (pos 0) in
    ap (λ (xs : List ℤ). fields_text (map signed_decimal xs)) (range_prices area places at i segments ordered within fits)
    ∙ (two before (here ++ after) ∙ ap (λ (t : Bytes). fields_text (map signed_decimal before) ++ t) (two here after))
  where
    two : (xs ys : List ℤ) → fields_text (map signed_decimal (xs ++ ys)) ≡ fields_text (map signed_decimal xs) ++ fields_text (map signed_decimal ys)
    two xs ys = ap fields_text (map_append signed_decimal xs ys) ∙ fields_append (map signed_decimal xs) (map signed_decimal ys)

-- one supplier more
pub root_prices-more : (job : Job) (area : IntervalBox) (places : List ℤ) (i : ℕ) → i < suppliers job
    → fields_text (map signed_decimal (places_by (root_of job) (i + 1) (price_or_zero area places)))
    ≡ fields_text (map signed_decimal (places_by (root_of job) i (price_or_zero area places)))
    ++ fields_text (map signed_decimal (prices_from 1 (segments job i) (price_from_or_zero area places (places_to area i) i)))
unfolding places_by place_of
root_prices-more job area places i below =
    let f = price_or_zero area places in
    ap (λ (n : ℕ). fields_text (map signed_decimal (places_by (root_of job) n f))) (add-one i)
    ∙ (ap fields_text (map_append signed_decimal (places_by (root_of job) i f) (prices_from (first_of (root_of job) i) (count_of (root_of job) i) (f i)))
    ∙ (fields_append (map signed_decimal (places_by (root_of job) i f)) (map signed_decimal (prices_from (first_of (root_of job) i) (count_of (root_of job) i) (f i)))
    ∙ ap (λ (t : Bytes). fields_text (map signed_decimal (places_by (root_of job) i f)) ++ t)
    (ap (λ (n : ℕ). fields_text (map signed_decimal (prices_from n (count_of (root_of job) i) (f i)))) (root_first job i below)
    ∙ ap (λ (n : ℕ). fields_text (map signed_decimal (prices_from 1 n (f i)))) (root_count job i below))))

pub root_prices-none : (job : Job) (area : IntervalBox) (places : List ℤ) → places_by (root_of job) 0 (price_or_zero area places) ≡ []
unfolding places_by
root_prices-none job area places = refl

-- a text that grows three times
grown : (old a b d whole first second third : Bytes) → first ≡ old ++ a → second ≡ first ++ b → third ≡ second ++ d → whole ≡ a ++ (b ++ d) → third ≡ old ++ whole
grown old a b d whole first second third e f g w =
    g ∙ (ap (λ (t : Bytes). t ++ d) (f ∙ ap (λ (t : Bytes). t ++ b) e)
    ∙ (append_assoc (old ++ a) b d ∙ (append_assoc old a (b ++ d) ∙ ap (λ (t : Bytes). old ++ t) (sym w))))

-- the text of a range is written
pub range_written : (area : IntervalBox) (places : List ℤ) (at i segments none count past : ℕ) (old first second third : Bytes)
    → low_of area i ≤ high_of area i → high_of area i ≤ segments → at + count_of area i ≤ length places
    → none ≡ first_of area i - 1 → count ≡ count_of area i → past ≡ segments - high_of area i
    → first ≡ old ++ fields_text (map signed_decimal (replicate none (pos 0)))
    → second ≡ first ++ fields_text (map signed_decimal (take count (drop at places)))
    → third ≡ second ++ fields_text (map signed_decimal (replicate past (pos 0)))
    → third ≡ old ++ fields_text (map signed_decimal (prices_from 1 segments (price_from_or_zero area places at i)))
range_written area places at i segments none count past old first second third ordered within fits z n p e f g =
    grown old (fields_text (map signed_decimal (replicate (first_of area i - 1) (pos 0)))) (fields_text (map signed_decimal (take (count_of area i) (drop at places))))
    (fields_text (map signed_decimal (replicate (segments - high_of area i) (pos 0)))) (fields_text (map signed_decimal (prices_from 1 segments (price_from_or_zero area places at i)))) first second third
    (e ∙ ap (λ (k : ℕ). old ++ fields_text (map signed_decimal (replicate k (pos 0)))) z)
    (f ∙ ap (λ (k : ℕ). first ++ fields_text (map signed_decimal (take k (drop at places)))) n)
    (g ∙ ap (λ (k : ℕ). second ++ fields_text (map signed_decimal (replicate k (pos 0)))) p)
    (range_text area places at i segments ordered within fits)

pub zeros_before : (area : IntervalBox) (i low first : ℕ) → low ≡ low_of area i → first ≡ max low 1 → first - 1 ≡ first_of area i - 1
unfolding first_of
zeros_before area i low first a b = omega (arith, a, b)

-- the texts of the first ranges and of the next
pub root_written : (job : Job) (area : IntervalBox) (places : List ℤ) (at i segs : ℕ) (old first second : Bytes) → i < suppliers job → at ≡ places_to area i → segs ≡ segments job i
    → first ≡ old ++ fields_text (map signed_decimal (places_by (root_of job) i (price_or_zero area places)))
    → second ≡ first ++ fields_text (map signed_decimal (prices_from 1 segs (price_from_or_zero area places at i)))
    → second ≡ old ++ fields_text (map signed_decimal (places_by (root_of job) (i + 1) (price_or_zero area places)))
root_written job area places at i segs old first second below a s e f =
    let all = fields_text (map signed_decimal (places_by (root_of job) i (price_or_zero area places))) in
    let next = fields_text (map signed_decimal (prices_from 1 (segments job i) (price_from_or_zero area places (places_to area i) i))) in
    f ∙ (ap (λ (k : ℕ). first ++ fields_text (map signed_decimal (prices_from 1 segs (price_from_or_zero area places k i)))) a
    ∙ (ap (λ (k : ℕ). first ++ fields_text (map signed_decimal (prices_from 1 k (price_from_or_zero area places (places_to area i) i)))) s
    ∙ (ap (λ (t : Bytes). t ++ next) e ∙ (append_assoc old all next ∙ ap (λ (t : Bytes). old ++ t) (sym (root_prices-more job area places i below))))))

-- the line of a row of a box as a row of the root
pub slot_line_is : (job : Job) (area : IntervalBox) (row : Prices) (n : ℕ) (goods places : List ℤ) (first second third fourth : Bytes) → goods ≡ row.goods → places ≡ row.places
    → first ≡ counts_text RowWord (n ∷ []) → second ≡ first ++ fields_text (map signed_decimal goods)
    → third ≡ second ++ fields_text (map signed_decimal (root_places job area places)) → fourth ≡ third ++ 10 ∷ []
    → fourth ≡ ended (Row n (all_prices (widened job area row)))
unfolding line_text
slot_line_is job area row n goods places first second third fourth g p a b e f =
    let gs = fields_text (map signed_decimal row.goods) in
    let ps = fields_text (map signed_decimal (root_places job area row.places)) in
    let begins : first ≡ word_text RowWord ++ 32 ∷ decimal n = a ∙ ap (λ (t : Bytes). word_text RowWord ++ 32 ∷ t) (append-nil (decimal n)) in
    let more : third ≡ (word_text RowWord ++ 32 ∷ decimal n) ++ (gs ++ ps) =
    e ∙ (ap (λ (xs : List ℤ). second ++ fields_text (map signed_decimal (root_places job area xs))) p
    ∙ (ap (λ (t : Bytes). t ++ ps) (b ∙ (ap (λ (xs : List ℤ). first ++ fields_text (map signed_decimal xs)) g ∙ ap (λ (t : Bytes). t ++ gs) begins))
    ∙ append_assoc (word_text RowWord ++ 32 ∷ decimal n) gs ps)) in
    let wide : fields_text (map signed_decimal (all_prices (widened job area row))) ≡ gs ++ ps =
    ap fields_text (map_append signed_decimal (widened job area row).goods (widened job area row).places)
    ∙ (fields_append (map signed_decimal (widened job area row).goods) (map signed_decimal (widened job area row).places)
    ∙ (ap (λ (xs : List ℤ). fields_text (map signed_decimal xs) ++ fields_text (map signed_decimal (widened job area row).places)) (widened_goods job area row)
    ∙ ap (λ (xs : List ℤ). gs ++ fields_text (map signed_decimal xs)) (widened_places job area row))) in
    f ∙ ap (λ (t : Bytes). t ++ 10 ∷ []) (more ∙ (append_assoc (word_text RowWord) (32 ∷ decimal n) (gs ++ ps) ∙ ap (λ (t : Bytes). word_text RowWord ++ (32 ∷ (decimal n ++ t))) (sym wide)))
