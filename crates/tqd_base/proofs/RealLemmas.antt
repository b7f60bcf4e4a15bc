-- The slots of a desk over real files.
use Rattle.std.proofs.Common.{ℕ, zero, suc, ◌≡◌, ◌<◌, ◌++◌, Option, None, Some, List, [], ◌∷◌, length, set, refl, sym, ◌∙◌, ap, subst, arith, true≢false}
use Rattle.std.specs.Prelude.{Bool, slice_get, option_and_then, IsSome, IfSome, String, string_bytes}
use Rattle.std.specs.Global.{Global}
use Rattle.std.specs.Option.{option_map}
use Rattle.tqd_base.specs.declared.real_slot.RealSlot.{RealSlot}
use Rattle.tqd_base.specs.declared.real_slot.RealSlot.TheVariants.{Closed, Reading as ReadsFile, Writing as WritesFile}
use Rattle.tqd_base.specs.World.{World, Name, Bytes, Reading, Writing, Reads, Writes, IsIdle, IsReadable, bytes_at, set_slot, set_file, append, print, shortened, left_at, left_of}
use Rattle.tqd_base.specs.Calls.{Moves}
use Rattle.tqd_base.specs.RealState.{real_slot, real_world}
use Rattle.tqd_base.proofs.KeptLemmas.{get_set, get_set_other, at_number}
use Rattle.tqd_base.proofs.Worlds.{same_world, set_slot-same}

pub real_idle : {F : Type 0} (slots : List (RealSlot F)) → slots ≡ [] → IsIdle (real_world slots)
unfolding IsIdle real_world
real_idle slots none n = ap (λ (l : List (RealSlot _)). option_and_then real_slot (slice_get l n)) none

push_view : {F : Type 0} (slots : List (RealSlot F)) (n : ℕ)
    → option_and_then real_slot (slice_get (slots ++ Closed ∷ []) n) ≡ option_and_then real_slot (slice_get slots n)
unfolding real_slot
push_view [] zero = refl
push_view [] (suc n) = refl
push_view (x ∷ xs) zero = refl
push_view (x ∷ xs) (suc n) = push_view xs n

-- a slot that is not open changes nothing
pub real_push : {F : Type 0} (slots : List (RealSlot F)) → real_world (slots ++ Closed ∷ []) ≡ real_world slots
unfolding real_world
real_push slots = same_world _ _ refl refl (push_view slots)

past_view : {F : Type 0} (slots : List (RealSlot F)) → option_and_then real_slot (slice_get slots (length slots)) ≡ None
past_view [] = refl
past_view (x ∷ xs) = past_view xs

pub real_last : {F : Type 0} (slots : List (RealSlot F)) → (real_world (slots ++ Closed ∷ [])).slots (length slots) ≡ None
unfolding real_world
real_last slots = push_view slots (length slots) ∙ past_view slots

within_view : {F : Type 0} (slots : List (RealSlot F)) (i : ℕ) → IsSome (option_and_then real_slot (slice_get slots i)) → i < length slots
within_view [] i h = absurd (true≢false (sym h))
within_view (x ∷ xs) zero h = omega arith
within_view (x ∷ xs) (suc i) h = omega (arith, within_view xs i h)

-- a slot that is open is in the list
pub real_within : {F : Type 0} (slots : List (RealSlot F)) (i : ℕ) → IsSome ((real_world slots).slots i) → i < length slots
unfolding real_world
real_within slots i h = within_view slots i h

pub real_here : {F : Type 0} (slots : List (RealSlot F)) (i : ℕ) (here : RealSlot F) → slice_get slots i ≡ Some here → (real_world slots).slots i ≡ real_slot here
unfolding real_world
real_here slots i here e = ap (option_and_then real_slot) e

-- another slot at a place
pub real_set : {F : Type 0} (slots : List (RealSlot F)) (i : ℕ) (kept : RealSlot F) → i < length slots
    → real_world (set slots i kept) ≡ set_slot (real_world slots) i (real_slot kept)
unfolding set_slot real_world
real_set slots i kept h = same_world _ _ refl refl (λ n.
    at_number n i (real_slot kept) _ _
    (λ e. ap (λ m. option_and_then real_slot (slice_get (set slots i kept) m)) e ∙ ap (option_and_then real_slot) (get_set slots i kept h))
    (λ d. ap (option_and_then real_slot) (get_set_other slots i n kept d)))

-- a slot whose name and kind stay
pub real_stays : {F : Type 0} (slots : List (RealSlot F)) (i : ℕ) (here kept : RealSlot F) → i < length slots → slice_get slots i ≡ Some here
    → real_slot kept ≡ real_slot here → real_world (set slots i kept) ≡ real_world slots
real_stays slots i here kept lt e same =
    real_set slots i kept lt ∙ ap (set_slot (real_world slots) i) same
    ∙ set_slot-same (real_world slots) i (real_slot here) (real_here slots i here e)

-- of bytes that are not told none are taken
untold : {F : Type 0} (o : Option (RealSlot F)) (n : ℕ) → option_and_then real_slot o ≡ option_map (shortened n) (option_and_then real_slot o)
unfolding real_slot shortened
untold None n = refl
untold (Some Closed) n = refl
untold (Some (ReadsFile name file)) n = refl
untold (Some (WritesFile name file)) n = refl

pub real_taken : {F : Type 0} (slots : List (RealSlot F)) (i n : ℕ)
    → real_world slots ≡ set_slot (real_world slots) i (option_map (shortened n) ((real_world slots).slots i))
unfolding real_world
real_taken slots i n = sym (set_slot-same _ i _ (untold (slice_get slots i) n))

untold_left : {F : Type 0} (o : Option (RealSlot F)) → option_and_then left_of (option_and_then real_slot o) ≡ None
unfolding real_slot left_of
untold_left None = refl
untold_left (Some Closed) = refl
untold_left (Some (ReadsFile name file)) = refl
untold_left (Some (WritesFile name file)) = refl

pub real_left : {F : Type 0} (slots : List (RealSlot F)) (i : ℕ) → left_at (real_world slots) i ≡ None
unfolding left_at real_world
real_left slots i = untold_left (slice_get slots i)

-- files and an output that are not told
pub real_append : {F : Type 0} (slots : List (RealSlot F)) (name : Name) (piece : Bytes) → append (real_world slots) name piece ≡ real_world slots
unfolding append real_world
real_append slots name piece = refl

pub real_print : {F : Type 0} (slots : List (RealSlot F)) (piece : Bytes) → print (real_world slots) piece ≡ real_world slots
unfolding print real_world
real_print slots piece = refl

pub real_file : {F : Type 0} (slots : List (RealSlot F)) (name : Name) (bytes : Bytes) → set_file (real_world slots) name bytes ≡ real_world slots
unfolding set_file real_world
real_file slots name bytes = refl

pub real_readable : {F : Type 0} (slots : List (RealSlot F)) (absent_is_empty : Bool) (name : Name) → IsReadable absent_is_empty (real_world slots) name
unfolding IsReadable real_world
real_readable slots a name = tt

pub real_moves : {F : Type 0} (slots : List (RealSlot F)) (i : ℕ) (buffer : Bytes) (n : ℕ) → IfSome (left_at (real_world slots) i) (λ left. Moves left buffer n)
real_moves slots i buffer n = subst (λ (o : Option Bytes). IfSome o (λ left. Moves left buffer n)) (sym (real_left slots i)) tt

-- a desk that tells no files names no reading that failed
pub real_unnamed : {F : Type 0} (slots : List (RealSlot F)) (name : Name) → IsSome (real_world slots).files → ◌≡◌ {A = Option Name} None (Some name)
unfolding real_world
real_unnamed slots name told = absurd (true≢false (sym told))

-- a slot that is opened at a place that was added
pub real_opens : {F : Type 0} (old new : List (RealSlot F)) (n : ℕ) (kept : String Global) (file : F) (name : Name) → n < length new
    → real_world new ≡ real_world old → string_bytes kept ≡ name
    → real_world (set new n (ReadsFile kept file)) ≡ set_slot (real_world old) n (Some (Reading name (bytes_at (real_world old) name)))
unfolding real_slot bytes_at real_world
real_opens old new n kept file name lt same named =
    real_set new n (ReadsFile kept file) lt
    ∙ ap (λ (w : World). set_slot w n (Some (Reading (string_bytes kept) None))) same
    ∙ ap (λ (m : Name). set_slot (real_world old) n (Some (Reading m None))) named

pub real_makes : {F : Type 0} (old new : List (RealSlot F)) (n : ℕ) (kept : String Global) (file : F) (name : Name) → n < length new
    → real_world new ≡ real_world old → string_bytes kept ≡ name
    → real_world (set new n (WritesFile kept file)) ≡ set_slot (set_file (real_world old) name []) n (Some (Writing name))
unfolding real_slot
real_makes old new n kept file name lt same named =
    real_set new n (WritesFile kept file) lt
    ∙ ap (λ (w : World). set_slot w n (Some (Writing (string_bytes kept)))) same
    ∙ ap (λ (m : Name). set_slot (real_world old) n (Some (Writing m))) named
    ∙ ap (λ (w : World). set_slot w n (Some (Writing name))) (sym (real_file old name []))

pub real_ends : {F : Type 0} (slots : List (RealSlot F)) (i : ℕ) → i < length slots → real_world (set slots i Closed) ≡ set_slot (real_world slots) i None
unfolding real_slot
real_ends slots i lt = real_set slots i Closed lt

-- a slot that reads or writes has a file
pub reads_file : {F : Type 0} (s : RealSlot F) → ((name : String Global) (file : F) → s ≡ ReadsFile name file → ⊥) → Reads (real_slot s) → ⊥
unfolding real_slot Reads
reads_file Closed not r = r
reads_file (ReadsFile name file) not r = not name file refl
reads_file (WritesFile name file) not r = r

pub writes_file : {F : Type 0} (s : RealSlot F) → ((name : String Global) (file : F) → s ≡ WritesFile name file → ⊥) → Writes (real_slot s) → ⊥
unfolding real_slot Writes
writes_file Closed not w = w
writes_file (ReadsFile name file) not w = w
writes_file (WritesFile name file) not w = not name file refl

pub reading_same : {F : Type 0} (s : RealSlot F) (name : String Global) (here there : F) → s ≡ ReadsFile name here → real_slot (ReadsFile name there) ≡ real_slot s
unfolding real_slot
reading_same s name here there e = ap real_slot (sym e)

pub writing_same : {F : Type 0} (s : RealSlot F) (name : String Global) (here there : F) → s ≡ WritesFile name here → real_slot (WritesFile name there) ≡ real_slot s
unfolding real_slot
writing_same s name here there e = ap real_slot (sym e)

pub writing_writes : {F : Type 0} (s : RealSlot F) (name : String Global) (here : F) → s ≡ WritesFile name here → Writes (real_slot s)
unfolding real_slot Writes
writing_writes s name here e = subst (λ (t : RealSlot _). Writes (real_slot t)) (sym e) tt
