-- How a text grows by a piece more.
use Rattle.std.proofs.Common.{ℕ, suc, zero, ◌≡◌, ◌+◌, ◌≤◌, List, [], ◌∷◌, ◌++◌, Bor, map, take, length, refl, ap, sym, ◌∙◌, add-one, append_assoc, append-nil}
use Rattle.std.specs.Prelude.{Result, Ok, Err, OnOk}
use Rattle.std.specs.List.{flat_map}
use Rattle.std.proofs.lemmas.List.{take_all}
use Rattle.tqd_base.specs.World.{Bytes}
use Rattle.tqd_base.specs.declared.memory.Memory.{Memory}
use Rattle.plan_report.specs.Lines.{line, texts_to}

pub texts_to-zero : (f : ℕ → Bytes) → texts_to 0 f ≡ []
unfolding texts_to
texts_to-zero f = refl

pub texts_to-suc : (n : ℕ) (f : ℕ → Bytes) → texts_to (suc n) f ≡ texts_to n f ++ f n
unfolding texts_to
texts_to-suc n f = refl

pub texts_to-more : (n : ℕ) (f : ℕ → Bytes) → texts_to (n + 1) f ≡ texts_to n f ++ f n
texts_to-more n f = ap (λ (m : ℕ). texts_to m f) (add-one n) ∙ texts_to-suc n f

-- a loop that adds texts, at its start and at a step
pub ruleset texts = (texts_to-zero, texts_to-more, append_assoc, append-nil)

pub ruleset appends = (append_assoc, append-nil)

-- a text that grows twice
pub grows_twice : (old a b t n new : Bytes) (r : Result (Unit {0}) Memory) → t ≡ old ++ a → n ≡ b → OnOk r (new ≡ t ++ n) → OnOk r (new ≡ old ++ (a ++ b))
grows_twice old a b t n new (Ok done) first same second = second ∙ ap (λ (z : Bytes). t ++ z) same ∙ ap (λ (z : Bytes). z ++ b) first ∙ append_assoc old a b
grows_twice old a b t n new (Err stop) first same second = tt

-- a text that grows thrice
pub grows_thrice : (old p f n u a b new : Bytes) (r : Result (Unit {0}) Memory) → a ≡ old ++ (p ++ f) → b ≡ a ++ n → OnOk r (new ≡ b ++ u)
    → OnOk r (new ≡ old ++ (p ++ ((f ++ n) ++ u)))
grows_thrice old p f n u a b new (Ok done) first second third = third ∙ ap (λ (t : Bytes). t ++ u) (second ∙ ap (λ (t : Bytes). t ++ n) first) ∙ simp append_assoc
grows_thrice old p f n u a b new (Err stop) first second third = tt

-- a text that grows by two pieces, and then by two more
pub grows_by_pairs : (old a b c d t new : Bytes) (r : Result (Unit {0}) Memory) → t ≡ old ++ (a ++ b) → OnOk r (new ≡ t ++ (c ++ d)) → OnOk r (new ≡ old ++ (a ++ b ++ c ++ d))
grows_by_pairs old a b c d t new (Ok done) first second = second ∙ ap (λ (z : Bytes). z ++ (c ++ d)) first ∙ simp append_assoc
grows_by_pairs old a b c d t new (Err stop) first second = tt

-- and then by one more
pub grows_by_pairs_and : (old a b c d e t u new : Bytes) (r : Result (Unit {0}) Memory) → t ≡ old ++ (a ++ b) → u ≡ t ++ (c ++ d) → OnOk r (new ≡ u ++ e)
    → OnOk r (new ≡ old ++ (a ++ b ++ c ++ d ++ e))
grows_by_pairs_and old a b c d e t u new (Ok done) first second third =
    third ∙ ap (λ (z : Bytes). z ++ e) (second ∙ ap (λ (z : Bytes). z ++ (c ++ d)) first) ∙ simp append_assoc
grows_by_pairs_and old a b c d e t u new (Err stop) first second third = tt

-- fields behind tabs
tabbed : (fields : List (Bor Bytes)) → flat_map (λ (field : Bor Bytes). 9 ∷ field.now) fields ≡ flat_map (λ (field : Bytes). 9 ∷ field) (map (λ (field : Bor Bytes). field.now) fields)
tabbed [] = refl
tabbed (field ∷ fields) = ap (λ (rest : Bytes). (9 ∷ field.now) ++ rest) (tabbed fields)

pub line_grown : (old word a b new : Bytes) (fields : List (Bor Bytes)) (n : ℕ) → a ≡ old ++ word → b ≡ a ++ flat_map (λ (field : Bor Bytes). 9 ∷ field.now) (take n fields)
    → length fields ≤ n → new ≡ b ++ 10 ∷ [] → new ≡ old ++ line word (map (λ (field : Bor Bytes). field.now) fields)
line_grown old word a b new fields n first second all third =
    let tabs : Bytes = flat_map (λ (field : Bytes). 9 ∷ field) (map (λ (field : Bor Bytes). field.now) fields) in
    let added : b ≡ a ++ tabs = second ∙ ap (λ (t : Bytes). a ++ t) (ap (flat_map (λ (field : Bor Bytes). 9 ∷ field.now)) (take_all n fields all) ∙ tabbed fields) in
    third ∙ ap (λ (t : Bytes). t ++ 10 ∷ []) (added ∙ ap (λ (t : Bytes). t ++ tabs) first) ∙ simp append_assoc

-- a text that grows six times
pub grows_six_times : (old a b c d e f t u v w x new : Bytes) (r : Result (Unit {0}) Memory) → t ≡ old ++ a → u ≡ t ++ b → v ≡ u ++ c → w ≡ v ++ d → x ≡ w ++ e
    → OnOk r (new ≡ x ++ f) → OnOk r (new ≡ old ++ (a ++ b ++ c ++ d ++ e ++ f))
grows_six_times old a b c d e f t u v w x new (Ok done) p q s h i j =
    let first : u ≡ old ++ a ++ b = q ∙ ap (λ (z : Bytes). z ++ b) p in
    let second : v ≡ old ++ a ++ b ++ c = s ∙ ap (λ (z : Bytes). z ++ c) first in
    let third : w ≡ old ++ a ++ b ++ c ++ d = h ∙ ap (λ (z : Bytes). z ++ d) second in
    let fourth : x ≡ old ++ a ++ b ++ c ++ d ++ e = i ∙ ap (λ (z : Bytes). z ++ e) third in
    j ∙ ap (λ (z : Bytes). z ++ f) fourth ∙ simp append_assoc
grows_six_times old a b c d e f t u v w x new (Err stop) p q s h i j = tt
