-- The numbers that fields write, read one after another.
use Rattle.std.proofs.Common.{◌≡◌, ◌≢◌, ℕ, ◌+◌, ◌<◌, ◌≤◌, List, [], ◌∷◌, ◌++◌, length, take, set, Option, None, Some, refl, sym, ◌∙◌, ap, arith, append_assoc, append-nil, add-one, length-append}
use Rattle.std.proofs.Math.Seq.{take-suc-set}
use Rattle.std.proofs.lemmas.List.{take_all}
use Rattle.std.proofs.lemmas.Bool.{ne_eqb}
use Rattle.std.proofs.lemmas.Bool.Decides.{nat_tests}
use Rattle.std.specs.Option.{option_map, option_and_then}
use Rattle.tqd_base.specs.World.{Bytes}
use Rattle.bound_tree.specs.Words.{numbers_of}
use Rattle.bound_tree.specs.Fields.{exactly}

pub read_on : {A : Type 0} (read : Bytes → Option A) (old new : List Bytes) (field : Bytes) (n : A) → old ≡ field ∷ new → read field ≡ Some n
    → numbers_of read old ≡ option_map (λ ns. n ∷ ns) (numbers_of read new)
read_on read old new field n e r = rw (e, r) refl

pub read_off : {A : Type 0} (read : Bytes → Option A) (old new : List Bytes) (field : Bytes) → old ≡ field ∷ new → read field ≡ None → numbers_of read old ≡ None
read_off read old new field e r = rw (e, r) refl

same_length : {A : Type 0} (first : Option A) (rest : Option (List A)) (n : ℕ) (ns : List A) → ((ms : List A) → rest ≡ Some ms → length ms ≡ n)
    → option_and_then (λ m. option_map (λ ms. m ∷ ms) rest) first ≡ Some ns → length ns ≡ n + 1
same_length None rest n ns known e = absurd (cc)
same_length (Some m) None n ns known e = absurd (cc)
same_length (Some m) (Some ms) n ns known e =
    let is : m ∷ ms ≡ ns = cc in let k : length ms ≡ n = known ms refl in omega (arith, sym (ap length is))

-- there are as many numbers as fields
pub numbers_length : {A : Type 0} (read : Bytes → Option A) (fields : List Bytes) (ns : List A) → numbers_of read fields ≡ Some ns → length ns ≡ length fields
numbers_length read [] ns e = let is : [] ≡ ns = cc in sym (ap length is)
numbers_length read (field ∷ fields) ns e = omega (arith, same_length (read field) (numbers_of read fields) (length fields) ns (numbers_length read fields) e)

counts_grow : (i : ℕ) (items : List ℕ) (n : ℕ) (o : Option (List ℕ)) → i < length items
    → option_map (λ ns. take i items ++ ns) (option_map (λ ns. n ∷ ns) o) ≡ option_map (λ ns. take (i + 1) (set items i n) ++ ns) o
counts_grow i items n None below = refl
counts_grow i items n (Some ns) below =
    let grows : take (i + 1) (set items i n) ≡ take i items ++ n ∷ [] = rw add-one (take-suc-set items i n below) in
    ap (λ (t : List ℕ). Some t) (sym (ap (λ (t : List ℕ). t ++ ns) grows ∙ append_assoc (take i items) (n ∷ []) ns))

-- one count more
pub counts_more : (read : Bytes → Option ℕ) (all old new : List Bytes) (field : Bytes) (i : ℕ) (items : List ℕ) (n : ℕ) → i < length items
    → numbers_of read all ≡ option_map (λ ns. take i items ++ ns) (numbers_of read old) → old ≡ field ∷ new → read field ≡ Some n
    → numbers_of read all ≡ option_map (λ ns. take (i + 1) (set items i n) ++ ns) (numbers_of read new)
counts_more read all old new field i items n below so_far e r =
    so_far ∙ (ap (option_map (λ ns. take i items ++ ns)) (read_on read old new field n e r) ∙ counts_grow i items n (numbers_of read new) below)

-- as many counts as there are places
pub counts_all : (read : Bytes → Option ℕ) (all old : List Bytes) (i size : ℕ) (items : List ℕ) → length items ≡ size → size ≤ i
    → numbers_of read all ≡ option_map (λ ns. take i items ++ ns) (numbers_of read old) → old ≡ [] → Some items ≡ option_and_then (exactly size) (numbers_of read all)
counts_all read all old i size items full most so_far none =
    let whole : take i items ++ [] ≡ items = append-nil (take i items) ∙ take_all i items (omega arith) in
    let all_are : numbers_of read all ≡ Some items = so_far ∙ (ap (λ (fields : List Bytes). option_map (λ ns. take i items ++ ns) (numbers_of read fields)) none ∙ ap (λ (t : List ℕ). Some t) whole) in
    rw all_are (grind (arith, nat_tests))

others : (size : ℕ) (items : List ℕ) (o : Option (List ℕ)) → length items ≡ size → ((ns : List ℕ) → o ≡ Some ns → 0 < length ns)
    → None ≡ option_and_then (exactly size) (option_map (λ ns. items ++ ns) o)
others size items None full some = refl
others size items (Some ns) full some =
    let more : 0 < length ns = some ns refl in
    let differ : length (items ++ ns) ≢ size = λ e. omega (arith, length-append items ns) in
    rw (ne_eqb (length (items ++ ns)) size differ) refl

-- more fields than places
pub counts_over : (read : Bytes → Option ℕ) (all old new : List Bytes) (field : Bytes) (i size : ℕ) (items : List ℕ) → length items ≡ size → size ≤ i
    → numbers_of read all ≡ option_map (λ ns. take i items ++ ns) (numbers_of read old) → old ≡ field ∷ new → None ≡ option_and_then (exactly size) (numbers_of read all)
counts_over read all old new field i size items full most so_far e =
    let whole : take i items ≡ items = take_all i items (omega arith) in
    let is : numbers_of read all ≡ option_map (λ ns. items ++ ns) (numbers_of read old) = so_far ∙ ap (λ (t : List ℕ). option_map (λ ns. t ++ ns) (numbers_of read old)) whole in
    rw is (others size items (numbers_of read old) full (λ ns found. omega (arith, numbers_length read old ns found, ap length e)))
