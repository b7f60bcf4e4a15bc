-- What the desks in memory give, over plain states.
use Rattle.std.proofs.Common.{ℕ, ◌≡◌, ◌++◌, Bool, true, false, Option, None, Some, List, [], refl, sym, ◌∙◌, ap, true≢false, subst, arith, append-nil}
use Rattle.std.specs.Prelude.{if◌then◌else◌, IsSome, Result, Ok, Err, IsErrAnd, nat_eq}
use Rattle.std.specs.Option.{option_map}
use Rattle.std.specs.Cmp.Lexicographic.{pointwise}
use Rattle.tqd_base.specs.declared.desk.DeskStop.{DeskStop}
use Rattle.tqd_base.specs.declared.kept.StoredFile.{StoredFile}
use Rattle.tqd_base.specs.declared.kept.KeptSlot.{KeptSlot}
use Rattle.tqd_base.specs.World.{World, State, Faults, NeverFall, Name, Bytes, Slot, Reading, Writing, Writes, append, print}
use Rattle.tqd_base.specs.Store.{is_writing_slot}
use Rattle.tqd_base.specs.Calls.{PutsPrefix, PrintsPrefix}
use Rattle.tqd_base.specs.Kept.{file_at, world_at}
use Rattle.tqd_base.specs.Told.{told_of}
use Rattle.tqd_base.proofs.Worlds.{same_world}

-- what holds of an error holds of an answer that is that error
pub at_stop : {T : Type 0} (P : Result T DeskStop → Type 0) (r : Result T DeskStop) (e : DeskStop) → IsErrAnd r (λ x. x ≡ e) → P (Err e) → P r
at_stop P (Ok v) e h p = absurd h
at_stop P (Err x) e h p = subst (λ (y : DeskStop). P (Err y)) (sym h) p

pub same_state : (s t : State) → s.world ≡ t.world → s.faults ≡ t.faults → s.failed_last ≡ t.failed_last → s ≡ t
same_state s t world faults failed = λ i. record { world = world i; faults = faults i; failed_last = failed i }

pub same_faults : (f : Faults) → NeverFall f f
same_faults f = record { reading = omega arith; writing = omega arith; printing = omega arith }

pub writes_some : (s : Option Slot) → Writes s → IsSome s
unfolding Writes
writes_some (Some s) w = refl
writes_some None w = absurd w

pub writing_slot : (s : Option Slot) (b : Bool) → b ≡ true → b ≡ is_writing_slot s → Writes s
unfolding Writes is_writing_slot
writing_slot (Some (Reading name left)) b writes is = absurd (true≢false (sym writes ∙ is))
writing_slot (Some (Writing name)) b writes is = tt
writing_slot None b writes is = absurd (true≢false (sym writes ∙ is))

pub told_world : (files : List StoredFile) (output : Bytes) (slots : List KeptSlot) (name : Name) (o : Option Bytes) → o ≡ file_at files name
    → told_of (world_at files output slots) name ≡ Some o
unfolding told_of world_at
told_world files output slots name o e = ap (λ (x : Option Bytes). Some x) (sym e)

nothing_more : (o : Option Bytes) → option_map (λ bytes. bytes ++ []) o ≡ o
nothing_more None = refl
nothing_more (Some bytes) = ap (λ (b : Bytes). Some b) (append-nil bytes)

nothing_test : (b : Bool) (found : Option Bytes) → (if b then option_map (λ bytes. bytes ++ []) found else found) ≡ found
nothing_test true found = nothing_more found
nothing_test false found = refl

nothing_files : (o : Option (Name → Option Bytes)) (name : Name)
    → option_map (λ files other. if pointwise nat_eq other name then option_map (λ bytes. bytes ++ []) (files other) else files other) o ≡ o
nothing_files None name = refl
nothing_files (Some files) name = λ i. Some (λ other. nothing_test (pointwise nat_eq other name) (files other) i)

-- an empty piece changes nothing
append_nothing : (w : World) (name : Name) → append w name [] ≡ w
unfolding append
append_nothing w name = same_world _ _ (nothing_files w.files name) refl (λ n. refl)

print_nothing : (w : World) → print w [] ≡ w
unfolding print
print_nothing w = same_world _ _ refl (nothing_more w.output) (λ n. refl)

-- the prefix of no bytes
pub puts_nothing : (old new : State) (slot : ℕ) (piece : Bytes) → new.world ≡ old.world → new.failed_last ≡ old.failed_last → NeverFall old.faults new.faults
    → PutsPrefix old new slot piece
puts_nothing old new slot piece same kept falls =
    (0, (omega arith), record { world = same ∙ sym (append_nothing old.world _); kept = kept; never_fall = falls })

pub prints_nothing : (old new : State) (piece : Bytes) → new.world ≡ old.world → new.failed_last ≡ old.failed_last → NeverFall old.faults new.faults
    → PrintsPrefix old new piece
prints_nothing old new piece same kept falls =
    (0, (omega arith), record { world = same ∙ sym (print_nothing old.world); kept = kept; never_fall = falls })
