-- What each call of a store does, over the lists that it keeps.
use Rattle.std.proofs.Common.{ℕ, zero, suc, ◌≡◌, ◌<◌, ◌++◌, Bool, true, false, Option, None, Some, List, [], ◌∷◌, length, set, get_or, refl, sym, ◌∙◌, ap, subst, arith, nat_eq, true≢false}
use Rattle.std.specs.Prelude.{if◌then◌else◌, slice_get, option_and_then, string_bytes, IfSome, IsSome, unwrap_or, Result, Ok, Err, OnOk, OnErr}
use Rattle.tqd_base.specs.declared.memory.Memory.{Memory}
use Rattle.std.specs.Option.{option_map}
use Rattle.std.specs.Cmp.Lexicographic.{pointwise, bytes_decides}
use Rattle.tqd_base.specs.declared.kept.StoredFile.{StoredFile}
use Rattle.tqd_base.specs.declared.kept.SlotState.{SlotState}
use Rattle.tqd_base.specs.declared.kept.SlotState.TheVariants.{Closed, Reading as ReadsOn, Writing as WritesOn}
use Rattle.tqd_base.specs.declared.kept.KeptSlot.{KeptSlot}
use Rattle.tqd_base.specs.World.{World, Name, Bytes, Slot, Reads, IsReadable, set_slot, set_file, append, print, bytes_at, shortened, left_at, left_of, name_of, name_at}
use Rattle.tqd_base.specs.Calls.{Moves}
use Rattle.tqd_base.specs.Store.{is_writing_slot}
use Rattle.tqd_base.specs.Kept.{file_at, IsFirstAt, slot_in, slot_of, world_at, name_kept}
use Rattle.tqd_base.specs.Store.{IsEmptyWorld}
use Rattle.tqd_base.proofs.KeptLemmas.{get_push, get_push_other, slots_push, slots_fresh, slots_set, files_set, file_first, name_first, set_file-append}
use Rattle.tqd_base.proofs.Worlds.{set_slot-same}

-- the item at a place
pub get_here : {A : Type 0} (xs : List A) (i : ℕ) (here : A) → i < length xs → here ≡ get_or xs i here → slice_get xs i ≡ Some here
get_here [] i here h e = absurd (omega (arith, h))
get_here (x ∷ xs) zero here h e = ap (λ (y : _). Some y) (sym e)
get_here (x ∷ xs) (suc i) here h e = get_here xs i here (omega arith) e

within_list : (slots : List KeptSlot) (i : ℕ) → IsSome (option_and_then slot_of (slice_get slots i)) → i < length slots
within_list [] i h = absurd (true≢false (sym h))
within_list (x ∷ xs) zero h = omega arith
within_list (x ∷ xs) (suc i) h = omega (arith, within_list xs i h)

-- a slot that is open is in the list
pub within_slots : (files : List StoredFile) (output : Bytes) (slots : List KeptSlot) (i : ℕ) → IsSome ((world_at files output slots).slots i) → i < length slots
unfolding world_at
within_slots files output slots i h = within_list slots i h

slot_here : (files : List StoredFile) (output : Bytes) (slots : List KeptSlot) (i : ℕ) (here : KeptSlot) → slice_get slots i ≡ Some here
    → (world_at files output slots).slots i ≡ slot_of here
unfolding world_at
slot_here files output slots i here e = ap (option_and_then slot_of) e

-- a slot that is taken from
pub take_reads : (files : List StoredFile) (output : Bytes) (slots : List KeptSlot) (i : ℕ) (here : KeptSlot) → slice_get slots i ≡ Some here
    → Reads ((world_at files output slots).slots i) → Reads (slot_of here)
take_reads files output slots i here e r = subst Reads (slot_here files output slots i here e) r

pub take_moves : (files : List StoredFile) (output : Bytes) (slots : List KeptSlot) (i : ℕ) (here : KeptSlot) (buffer : Bytes) (n : ℕ) → slice_get slots i ≡ Some here
    → IfSome (option_and_then left_of (slot_of here)) (λ left. Moves left buffer n) → IfSome (left_at (world_at files output slots) i) (λ left. Moves left buffer n)
unfolding left_at
take_moves files output slots i here buffer n e m =
    subst (λ (s : Option Slot). IfSome (option_and_then left_of s) (λ left. Moves left buffer n)) (sym (slot_here files output slots i here e)) m

pub take_world : (files : List StoredFile) (output : Bytes) (slots : List KeptSlot) (i : ℕ) (here kept : KeptSlot) (n : ℕ) → i < length slots → slice_get slots i ≡ Some here
    → slot_of kept ≡ option_map (shortened n) (slot_of here)
    → world_at files output (set slots i kept) ≡ set_slot (world_at files output slots) i (option_map (shortened n) ((world_at files output slots).slots i))
take_world files output slots i here kept n lt e after =
    slots_set files output slots i kept lt
    ∙ ap (set_slot (world_at files output slots) i) (after ∙ ap (option_map (shortened n)) (sym (slot_here files output slots i here e)))

-- a slot that ends
pub end_world : (files : List StoredFile) (output : Bytes) (slots : List KeptSlot) (i : ℕ) (kept : KeptSlot) → i < length slots → kept.state ≡ Closed
    → world_at files output (set slots i kept) ≡ set_slot (world_at files output slots) i None
unfolding slot_of
end_world files output slots i kept lt closed =
    slots_set files output slots i kept lt ∙ ap (set_slot (world_at files output slots) i) (ap (slot_in (string_bytes kept.name)) closed)

names_set : (slots : List KeptSlot) (i j : ℕ) (here kept : KeptSlot) → slice_get slots i ≡ Some here → string_bytes kept.name ≡ string_bytes here.name
    → option_map (λ k. string_bytes k.name) (slice_get (set slots i kept) j) ≡ option_map (λ k. string_bytes k.name) (slice_get slots j)
names_set [] i j here kept e same = refl
names_set (x ∷ xs) zero zero here kept e same = ap (λ (n : Name). Some n) same ∙ ap (option_map (λ k. string_bytes k.name)) (sym e)
names_set (x ∷ xs) zero (suc j) here kept e same = refl
names_set (x ∷ xs) (suc i) zero here kept e same = refl
names_set (x ∷ xs) (suc i) (suc j) here kept e same = names_set xs i j here kept e same

-- the name whose reading failed last, where a slot changes or is added
pub name_set : (slots : List KeptSlot) (i : ℕ) (here kept : KeptSlot) (place : Option ℕ) → slice_get slots i ≡ Some here → string_bytes kept.name ≡ string_bytes here.name
    → name_kept (set slots i kept) place ≡ name_kept slots place
unfolding name_kept
name_set slots i here kept None e same = refl
name_set slots i here kept (Some j) e same = names_set slots i j here kept e same

pub name_push : (slots : List KeptSlot) (kept : KeptSlot) (place : Option ℕ) → IfSome place (λ i. i < length slots)
    → name_kept (slots ++ kept ∷ []) place ≡ name_kept slots place
unfolding name_kept
name_push slots kept None known = refl
name_push slots kept (Some j) known = ap (option_map (λ k. string_bytes k.name)) (get_push_other slots kept j (λ e. omega (arith, known, e)))

pub name_last : (slots : List KeptSlot) (kept : KeptSlot) → name_kept (slots ++ kept ∷ []) (Some (length slots)) ≡ Some (string_bytes kept.name)
unfolding name_kept
name_last slots kept = ap (option_map (λ k. string_bytes k.name)) (get_push slots kept)

-- a slot that is not open changes nothing
pub closed_push : (files : List StoredFile) (output : Bytes) (slots : List KeptSlot) (kept : KeptSlot) → kept.state ≡ Closed
    → world_at files output (slots ++ kept ∷ []) ≡ world_at files output slots
unfolding slot_of
closed_push files output slots kept closed =
    slots_push files output slots kept
    ∙ ap (set_slot (world_at files output slots) (length slots)) (ap (slot_in (string_bytes kept.name)) closed)
    ∙ set_slot-same (world_at files output slots) (length slots) None (slots_fresh files output slots)

slot_in_name : (name : Name) (state : SlotState) → IsSome (slot_in name state) → Some name ≡ option_map name_of (slot_in name state)
unfolding name_of
slot_in_name name Closed h = absurd (true≢false (sym h))
slot_in_name name (ReadsOn bytes at) h = refl
slot_in_name name WritesOn h = refl

named : (o : Option KeptSlot) → IsSome (option_and_then slot_of o)
    → option_map (λ k. string_bytes k.name) o ≡ Some (unwrap_or (option_map name_of (option_and_then slot_of o)) [])
unfolding slot_of
named None h = absurd (true≢false (sym h))
named (Some k) h = ap (λ (n : Option Name). Some (unwrap_or n [])) (slot_in_name (string_bytes k.name) k.state h)

-- the name of a slot that is open
pub name_open : (files : List StoredFile) (output : Bytes) (slots : List KeptSlot) (i : ℕ) → IsSome ((world_at files output slots).slots i)
    → name_kept slots (Some i) ≡ Some (name_at (world_at files output slots) i)
unfolding name_kept name_at world_at
name_open files output slots i h = named (slice_get slots i) h

pub name_here : (files : List StoredFile) (output : Bytes) (slots : List KeptSlot) (i : ℕ) (here : KeptSlot) → IsSome ((world_at files output slots).slots i)
    → slice_get slots i ≡ Some here → name_at (world_at files output slots) i ≡ string_bytes here.name
unfolding name_kept
name_here files output slots i here h e =
    let both : Some (name_at (world_at files output slots) i) ≡ Some (string_bytes here.name) =
    sym (name_open files output slots i h) ∙ ap (option_map (λ k. string_bytes k.name)) e in
    cc

-- a file that gets the bytes that it has
same_file : (b : Bool) (found : Option Bytes) (old : Bytes) → (b ≡ true → found ≡ Some old) → (if b then Some old else found) ≡ found
same_file true found old h = sym (h refl)
same_file false found old h = refl

set_file-same : (files : List StoredFile) (output : Bytes) (slots : List KeptSlot) (name old : Bytes) → file_at files name ≡ Some old
    → set_file (world_at files output slots) name old ≡ world_at files output slots
unfolding set_file world_at
set_file-same files output slots name old there = λ j. record {
  files = Some (λ other. same_file (pointwise nat_eq other name) (file_at files other) old (λ e. ap (file_at files) ((bytes_decides other name).0 e) ∙ there) j);
  output = Some output;
  slots = λ n. option_and_then slot_of (slice_get slots n);
}

-- a piece that is put into the first file of a name
pub put_world : (files : List StoredFile) (output : Bytes) (slots : List KeptSlot) (i : ℕ) (here grown : StoredFile) (name piece : Bytes) → IsFirstAt files name i
    → slice_get files i ≡ Some here → grown.bytes.items ≡ here.bytes.items ++ piece → string_bytes grown.name ≡ string_bytes here.name
    → world_at (set files i grown) output slots ≡ append (world_at files output slots) name piece
put_world files output slots i here grown name piece first e more same =
    files_set files output slots i grown name first (same ∙ name_first files i here name first e)
    ∙ ap (set_file (world_at files output slots) name) more
    ∙ set_file-append files output slots name here.bytes.items piece (file_first files i here name first e)

pub put_stays : (files : List StoredFile) (output : Bytes) (slots : List KeptSlot) (i : ℕ) (here grown : StoredFile) (name : Bytes) → IsFirstAt files name i
    → slice_get files i ≡ Some here → grown.bytes.items ≡ here.bytes.items → string_bytes grown.name ≡ string_bytes here.name
    → world_at (set files i grown) output slots ≡ world_at files output slots
put_stays files output slots i here grown name first e stays same =
    files_set files output slots i grown name first (same ∙ name_first files i here name first e)
    ∙ ap (set_file (world_at files output slots) name) stays
    ∙ set_file-same files output slots name here.bytes.items (file_first files i here name first e)

absent_test : (b : Bool) (found : Option Bytes) (piece : Bytes) → (b ≡ true → found ≡ None) → found ≡ (if b then option_map (λ bytes. bytes ++ piece) found else found)
absent_test true found piece h = h refl ∙ sym (ap (option_map (λ (bytes : Bytes). bytes ++ piece)) (h refl))
absent_test false found piece h = refl

-- a piece that is put into no file
pub put_absent : (files : List StoredFile) (output : Bytes) (slots : List KeptSlot) (name piece : Bytes) → file_at files name ≡ None
    → world_at files output slots ≡ append (world_at files output slots) name piece
unfolding append world_at
put_absent files output slots name piece absent = λ j. record {
  files = Some (λ other. absent_test (pointwise nat_eq other name) (file_at files other) piece (λ e. ap (file_at files) ((bytes_decides other name).0 e) ∙ absent) j);
  output = Some output;
  slots = λ n. option_and_then slot_of (slice_get slots n);
}

-- a piece more in the output
pub print_world : (files : List StoredFile) (output : Bytes) (slots : List KeptSlot) (piece : Bytes)
    → world_at files (output ++ piece) slots ≡ print (world_at files output slots) piece
unfolding print world_at
print_world files output slots piece = refl

pub output_world : (files : List StoredFile) (output : Bytes) (slots : List KeptSlot) → (world_at files output slots).output ≡ Some output
unfolding world_at
output_world files output slots = refl

pub bytes_there : (files : List StoredFile) (output : Bytes) (slots : List KeptSlot) (name bytes : Bytes) → file_at files name ≡ Some bytes
    → bytes_at (world_at files output slots) name ≡ Some bytes
unfolding bytes_at world_at
bytes_there files output slots name bytes e = ap (λ (o : Option Bytes). Some (unwrap_or o [])) e

pub bytes_absent : (files : List StoredFile) (output : Bytes) (slots : List KeptSlot) (name : Bytes) → file_at files name ≡ None
    → bytes_at (world_at files output slots) name ≡ Some []
unfolding bytes_at world_at
bytes_absent files output slots name e = ap (λ (o : Option Bytes). Some (unwrap_or o [])) e

pub empty_world : (files : List StoredFile) (output : Bytes) (slots : List KeptSlot) → files ≡ [] → output ≡ [] → slots ≡ [] → IsEmptyWorld (world_at files output slots)
unfolding world_at file_at
empty_world files output slots no_files no_output no_slots = record {
  files = λ name. ap (λ (l : List StoredFile). file_at l name) no_files;
  output = ap (λ (o : Bytes). Some o) no_output;
  slots = λ n. ap (λ (l : List KeptSlot). option_and_then slot_of (slice_get l n)) no_slots;
}

pub empty_name : (slots : List KeptSlot) → name_kept slots None ≡ None
unfolding name_kept
empty_name slots = refl

-- a slot at another number does not stand in the way of a file
pub file_beside_slot : (w : World) (name bytes : Bytes) (n : ℕ) (s : Option Slot) → set_file (set_slot w n s) name bytes ≡ set_slot (set_file w name bytes) n s
unfolding set_file set_slot
file_beside_slot w name bytes n s = refl

-- what follows from what an answer says
pub on_ok : (r : Result (Unit {0}) Memory) (A B : Type 0) → (A → B) → OnOk r A → OnOk r B
on_ok (Ok done) A B f a = f a
on_ok (Err e) A B f a = tt

pub on_err : (r : Result (Unit {0}) Memory) (A B : Type 0) → (A → B) → OnErr r A → OnErr r B
on_err (Ok done) A B f a = tt
on_err (Err e) A B f a = f a

pub writing_here : (files : List StoredFile) (output : Bytes) (slots : List KeptSlot) (i : ℕ) (here : KeptSlot) → slice_get slots i ≡ Some here
    → is_writing_slot (slot_of here) ≡ is_writing_slot ((world_at files output slots).slots i)
writing_here files output slots i here e = ap is_writing_slot (sym (slot_here files output slots i here e))

-- whether no file has a name
pub readable_there : (files : List StoredFile) (output : Bytes) (slots : List KeptSlot) (absent_is_empty : Bool) (name bytes : Bytes) → file_at files name ≡ Some bytes
    → IsReadable absent_is_empty (world_at files output slots) name
unfolding IsReadable world_at
readable_there files output slots a name bytes there absent = absurd (cc)

pub readable_absent : (files : List StoredFile) (output : Bytes) (slots : List KeptSlot) (name : Bytes)
    → IsReadable true (world_at files output slots) name
unfolding IsReadable world_at
readable_absent files output slots name absent = refl
