-- How the lists that are kept in memory change the world that they are seen as.
use Rattle.std.proofs.Common.{ℕ, zero, suc, ◌≡◌, ◌≢◌, ◌+◌, ◌<◌, ◌≤◌, ◌++◌, Bool, true, false, Option, None, Some, List, [], ◌∷◌, length, drop, set, get_or, zero-add, refl, sym, ◌∙◌, ap, subst, arith, inl, inr, nat_eq, true≢false}
use Rattle.std.specs.Prelude.{if◌then◌else◌, ◌==◌, slice_get, option_and_then, string_bytes}
use Rattle.std.specs.Option.{option_map}
use Rattle.std.specs.Cmp.Lexicographic.{pointwise, bytes_decides}
use Rattle.std.proofs.lemmas.Bool.Decides.{eqb_tells}
use Rattle.std.proofs.lemmas.List.{drop_all}
use Rattle.tqd_base.specs.declared.kept.StoredFile.{StoredFile}
use Rattle.tqd_base.specs.declared.kept.KeptSlot.{KeptSlot}
use Rattle.tqd_base.specs.World.{Name, Bytes, Slot, set_slot, set_file, append}
use Rattle.tqd_base.specs.Kept.{file_at, IsFirstAt, slot_of, world_at}
use Rattle.tqd_base.proofs.Worlds.{same_world}

pub get_push : {A : Type 0} (xs : List A) (y : A) → slice_get (xs ++ y ∷ []) (length xs) ≡ Some y
get_push [] y = refl
get_push (x ∷ xs) y = get_push xs y

pub get_push_other : {A : Type 0} (xs : List A) (y : A) (n : ℕ) → n ≢ length xs → slice_get (xs ++ y ∷ []) n ≡ slice_get xs n
get_push_other [] y zero h = absurd (h refl)
get_push_other [] y (suc n) h = refl
get_push_other (x ∷ xs) y zero h = refl
get_push_other (x ∷ xs) y (suc n) h = get_push_other xs y n (λ e. h (ap suc e))

pub get_past : {A : Type 0} (xs : List A) → slice_get xs (length xs) ≡ None
get_past [] = refl
get_past (x ∷ xs) = get_past xs

pub get_set : {A : Type 0} (xs : List A) (i : ℕ) (y : A) → i < length xs → slice_get (set xs i y) i ≡ Some y
get_set [] i y h = absurd (omega (arith, h))
get_set (x ∷ xs) zero y h = refl
get_set (x ∷ xs) (suc i) y h = get_set xs i y (omega arith)

pub get_set_other : {A : Type 0} (xs : List A) (i n : ℕ) (y : A) → n ≢ i → slice_get (set xs i y) n ≡ slice_get xs n
get_set_other [] i n y h = refl
get_set_other (x ∷ xs) zero zero y h = absurd (h refl)
get_set_other (x ∷ xs) zero (suc n) y h = refl
get_set_other (x ∷ xs) (suc i) zero y h = refl
get_set_other (x ∷ xs) (suc i) (suc n) y h = get_set_other xs i n y (λ e. h (ap suc e))

-- what stands at one number and not at the others
pub at_number : (n k : ℕ) (here there new : Option Slot) → (n ≡ k → new ≡ here) → (n ≢ k → new ≡ there) → new ≡ (if n == k then here else there)
at_number n k here there new same other =
    elim (eqb_tells n k) as (λ _. new ≡ (if n == k then here else there)) [
      | inl w ↦ rw w.0 (same w.1)
      | inr w ↦ rw w.0 (other w.1)
    ]

-- a slot at the end
pub slots_push : (files : List StoredFile) (output : Bytes) (slots : List KeptSlot) (kept : KeptSlot)
    → world_at files output (slots ++ kept ∷ []) ≡ set_slot (world_at files output slots) (length slots) (slot_of kept)
unfolding set_slot world_at
slots_push files output slots kept = same_world _ _ refl refl (λ n.
    at_number n (length slots) (slot_of kept) _ _
    (λ e. ap (λ m. option_and_then slot_of (slice_get (slots ++ kept ∷ []) m)) e ∙ ap (option_and_then slot_of) (get_push slots kept))
    (λ h. ap (option_and_then slot_of) (get_push_other slots kept n h)))

pub slots_fresh : (files : List StoredFile) (output : Bytes) (slots : List KeptSlot) → (world_at files output slots).slots (length slots) ≡ None
unfolding world_at
slots_fresh files output slots = ap (option_and_then slot_of) (get_past slots)

-- another slot at a place
pub slots_set : (files : List StoredFile) (output : Bytes) (slots : List KeptSlot) (i : ℕ) (kept : KeptSlot) → i < length slots
    → world_at files output (set slots i kept) ≡ set_slot (world_at files output slots) i (slot_of kept)
unfolding set_slot world_at
slots_set files output slots i kept h = same_world _ _ refl refl (λ n.
    at_number n i (slot_of kept) _ _
    (λ e. ap (λ m. option_and_then slot_of (slice_get (set slots i kept) m)) e ∙ ap (option_and_then slot_of) (get_set slots i kept h))
    (λ d. ap (option_and_then slot_of) (get_set_other slots i n kept d)))

-- two tests that do not both hold may be made in either order
swap_tests : (b c : Bool) (x y z : Option Bytes) → (b ≡ true → c ≡ false) → (if b then x else (if c then y else z)) ≡ (if c then y else (if b then x else z))
swap_tests true true x y z h = absurd (true≢false (h refl))
swap_tests true false x y z h = refl
swap_tests false true x y z h = refl
swap_tests false false x y z h = refl

-- the first of two equal tests decides
same_test : (b : Bool) (x y z : Option Bytes) → (if b then x else z) ≡ (if b then x else (if b then y else z))
same_test true x y z = refl
same_test false x y z = refl

not_true : (b : Bool) → (b ≡ true → ⊥) → b ≡ false
not_true true h = absurd (h refl)
not_true false h = refl

-- a name that is one of two different names is not the other
apart : (a b other : Name) → pointwise nat_eq a b ≡ false → pointwise nat_eq other b ≡ true → pointwise nat_eq other a ≡ false
apart a b other differ is_b = not_true (pointwise nat_eq other a) (λ is_a.
    let same : a ≡ b = sym ((bytes_decides other a).0 is_a) ∙ (bytes_decides other b).0 is_b in
    true≢false (sym ((bytes_decides a b).1 same) ∙ differ))

none_test : (b : Bool) (x : Bytes) (y : Option Bytes) → (if b then Some x else y) ≡ None → (b ≡ false) × (y ≡ None)
none_test true x y h = cc
none_test false x y h = (refl, h)

-- a file of another name does not stand in the way
file_push : (files : List StoredFile) (file : StoredFile) (name other : Name) → file_at files name ≡ None → string_bytes file.name ≡ name
    → file_at (files ++ file ∷ []) other ≡ (if pointwise nat_eq other name then Some file.bytes.items else file_at files other)
unfolding file_at
file_push [] file name other none same = rw same refl
file_push (f ∷ files) file name other none same =
    let tests = none_test (pointwise nat_eq name (string_bytes f.name)) f.bytes.items (file_at files name) none in
    ap (λ (rest : Option Bytes). if pointwise nat_eq other (string_bytes f.name) then Some f.bytes.items else rest) (file_push files file name other tests.1 same)
    ∙ swap_tests (pointwise nat_eq other (string_bytes f.name)) (pointwise nat_eq other name) (Some f.bytes.items) (Some file.bytes.items) (file_at files other)
    (apart name (string_bytes f.name) other tests.0)

pub files_push : (files : List StoredFile) (output : Bytes) (slots : List KeptSlot) (file : StoredFile) (name : Name) → file_at files name ≡ None → string_bytes file.name ≡ name
    → world_at (files ++ file ∷ []) output slots ≡ set_file (world_at files output slots) name file.bytes.items
unfolding set_file world_at
files_push files output slots file name none same = λ i. record {
  files = Some (λ other. file_push files file name other none same i);
  output = Some output;
  slots = λ n. option_and_then slot_of (slice_get slots n);
}

file_set : (files : List StoredFile) (i : ℕ) (file : StoredFile) (name other : Name) → IsFirstAt files name i → string_bytes file.name ≡ name
    → file_at (set files i file) other ≡ (if pointwise nat_eq other name then Some file.bytes.items else file_at files other)
unfolding file_at IsFirstAt
file_set [] i file name other first same = absurd first
file_set (f ∷ files) zero file name other first same =
    ap (λ (n : Name). if pointwise nat_eq other n then Some file.bytes.items else file_at files other) same
    ∙ same_test (pointwise nat_eq other name) (Some file.bytes.items) (Some f.bytes.items) (file_at files other)
    ∙ ap (λ (n : Name). if pointwise nat_eq other name then Some file.bytes.items else (if pointwise nat_eq other n then Some f.bytes.items else file_at files other))
    ((bytes_decides name (string_bytes f.name)).0 first)
file_set (f ∷ files) (suc i) file name other first same =
    ap (λ (rest : Option Bytes). if pointwise nat_eq other (string_bytes f.name) then Some f.bytes.items else rest) (file_set files i file name other first.1 same)
    ∙ swap_tests (pointwise nat_eq other (string_bytes f.name)) (pointwise nat_eq other name) (Some f.bytes.items) (Some file.bytes.items) (file_at files other)
    (apart name (string_bytes f.name) other first.0)

pub files_set : (files : List StoredFile) (output : Bytes) (slots : List KeptSlot) (i : ℕ) (file : StoredFile) (name : Name) → IsFirstAt files name i → string_bytes file.name ≡ name
    → world_at (set files i file) output slots ≡ set_file (world_at files output slots) name file.bytes.items
unfolding set_file world_at
files_set files output slots i file name first same = λ j. record {
  files = Some (λ other. file_set files i file name other first same j);
  output = Some output;
  slots = λ n. option_and_then slot_of (slice_get slots n);
}

-- what the first file of a name holds
pub file_first : (files : List StoredFile) (i : ℕ) (file : StoredFile) (name : Name) → IsFirstAt files name i → slice_get files i ≡ Some file → file_at files name ≡ Some file.bytes.items
unfolding file_at IsFirstAt
file_first [] i file name first here = absurd first
file_first (f ∷ files) zero file name first here = rw first (ap (λ (o : Option StoredFile). option_map (λ g. g.bytes.items) o) here)
file_first (f ∷ files) (suc i) file name first here = rw first.0 (file_first files i file name first.1 here)

-- the name of the first file of a name
pub name_first : (files : List StoredFile) (i : ℕ) (file : StoredFile) (name : Name) → IsFirstAt files name i → slice_get files i ≡ Some file → string_bytes file.name ≡ name
unfolding IsFirstAt
name_first [] i file name first here = absurd first
name_first (f ∷ files) zero file name first here = let same : f ≡ file = cc in ap (λ g. string_bytes g.name) (sym same) ∙ sym ((bytes_decides name (string_bytes f.name)).0 first)
name_first (f ∷ files) (suc i) file name first here = name_first files i file name first.1 here

pub within_first : (files : List StoredFile) (i : ℕ) (name : Name) → IsFirstAt files name i → i < length files
unfolding IsFirstAt
within_first [] i name first = absurd first
within_first (f ∷ files) zero name first = omega arith
within_first (f ∷ files) (suc i) name first = omega (arith, within_first files i name first.1)

-- a file that is there and grows by a piece
grown_test : (b : Bool) (found : Option Bytes) (old piece : Bytes) → (b ≡ true → found ≡ Some old)
    → (if b then Some (old ++ piece) else found) ≡ (if b then option_map (λ bytes. bytes ++ piece) found else found)
grown_test true found old piece h = sym (ap (option_map (λ bytes. bytes ++ piece)) (h refl))
grown_test false found old piece h = refl

pub set_file-append : (files : List StoredFile) (output : Bytes) (slots : List KeptSlot) (name old piece : Bytes) → file_at files name ≡ Some old
    → set_file (world_at files output slots) name (old ++ piece) ≡ append (world_at files output slots) name piece
unfolding set_file append world_at
set_file-append files output slots name old piece there = λ j. record {
  files = Some (λ other. grown_test (pointwise nat_eq other name) (file_at files other) old piece (λ e. ap (file_at files) ((bytes_decides other name).0 e) ∙ there) j);
  output = Some output;
  slots = λ n. option_and_then slot_of (slice_get slots n);
}

-- the first files have other names
pub record Skips (files : List StoredFile) (name : Name) (i : ℕ) : Type 0 where
  pub places : (k : ℕ) → IsFirstAt (drop i files) name k → IsFirstAt files name (i + k)
  pub bytes : file_at files name ≡ file_at (drop i files) name

pub skips_none : (files : List StoredFile) (name : Name) → Skips files name 0
skips_none files name = record { places = λ k h. subst (IsFirstAt files name) (sym (zero-add k)) h; bytes = refl }

skip_one : (file : StoredFile) (rest : List StoredFile) (name : Name) → pointwise nat_eq name (string_bytes file.name) ≡ false
    → ((k : ℕ) → IsFirstAt rest name k → IsFirstAt (file ∷ rest) name (suc k)) × (file_at (file ∷ rest) name ≡ file_at rest name)
unfolding IsFirstAt file_at
skip_one file rest name other = ((λ k h. (other, h)), rw other refl)

pub skips_more : (files : List StoredFile) (name : Name) (i : ℕ) (file : StoredFile) → drop i files ≡ file ∷ drop (i + 1) files
    → pointwise nat_eq name (string_bytes file.name) ≡ false → Skips files name i → Skips files name (i + 1)
skips_more files name i file here other s =
    let one = skip_one file (drop (i + 1) files) name other in
    record {
      places = λ k h. subst (IsFirstAt files name) (omega arith) (s.places (suc k) (subst (λ (l : List StoredFile). IsFirstAt l name (suc k)) (sym here) (one.0 k h)));
      bytes = s.bytes ∙ ap (λ (l : List StoredFile). file_at l name) here ∙ one.1;
    }

-- the file at a place that no file of the name stands before
pub skips_found : (files : List StoredFile) (name : Name) (i : ℕ) (file : StoredFile) (rest : List StoredFile) → drop i files ≡ file ∷ rest
    → pointwise nat_eq name (string_bytes file.name) ≡ true → Skips files name i → IsFirstAt files name i
unfolding IsFirstAt
skips_found files name i file rest here same s =
    subst (IsFirstAt files name) (omega arith) (s.places 0 (subst (λ (l : List StoredFile). IsFirstAt l name 0) (sym here) same))

pub skips_all : (files : List StoredFile) (name : Name) (i : ℕ) → length files ≤ i → Skips files name i → file_at files name ≡ None
unfolding file_at
skips_all files name i all s = s.bytes ∙ ap (λ (l : List StoredFile). file_at l name) (drop_all i files all)

-- the items from a place on begin with the item there
pub drop_here : (files : List StoredFile) (i : ℕ) (file : StoredFile) → i < length files → file ≡ get_or files i file → drop i files ≡ file ∷ drop (i + 1) files
drop_here [] i file h e = absurd (omega (arith, h))
drop_here (f ∷ files) zero file h e = ap (λ (g : StoredFile). g ∷ files) (sym e)
drop_here (f ∷ files) (suc i) file h e =
    let next : suc (i + 1) ≡ suc i + 1 = omega arith in
    subst (λ (k : ℕ). drop i files ≡ file ∷ drop k (f ∷ files)) next (drop_here files i file (omega arith) e)
