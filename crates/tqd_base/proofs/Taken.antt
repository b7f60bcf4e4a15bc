-- What was taken so far from a reading slot.
use Rattle.std.proofs.Common.{ℕ, ◌≡◌, ◌+◌, ◌<◌, ◌≤◌, ◌++◌, Option, None, Some, [], length, take, drop, refl, sym, ◌∙◌, ap, subst, arith, length-append, append_assoc, append-nil}
use Rattle.std.proofs.lemmas.List.{length-take-le, take-append-drop, drop-drop}
use Rattle.std.proofs.Math.Seq.{take-append_seam}
use Rattle.std.specs.Prelude.{IfSome, IsSome, option_and_then, unwrap_or, Vec, vec_len, Result, Ok, Err, IsErrAnd}
use Rattle.std.specs.Option.{option_map}
use Rattle.std.specs.Global.{Global}
use Rattle.tqd_base.specs.declared.desk.DeskStop.{DeskStop}
use Rattle.tqd_base.specs.declared.desk.DeskStop.TheVariants.{Failed, Memory as NoMemory}
use Rattle.tqd_base.specs.Stops.{read_stop_of}
use Rattle.tqd_base.specs.declared.read.ReadStop.{ReadStop}
use Rattle.tqd_base.specs.declared.read.ReadStop.TheVariants.{Fault, Size, Memory}
use Rattle.tqd_base.specs.World.{World, State, Faults, Name, Bytes, Slot, Reading, Writing, NeverFall, Rose, Reads, set_slot, shortened, left_at, left_of, name_of, name_at}
use Rattle.tqd_base.specs.Calls.{TakeGives, Takes, Moves, FailsReading}
use Rattle.tqd_base.specs.TakeAll.{Drains, TakeAllGives}
use Rattle.tqd_base.proofs.Worlds.{slots-set_slot-same, set_slot-set_slot, set_slot-same}

-- the bytes are the first of those that the slot had left, and the slot has the others left
pub record Taken (old new : State) (slot : ℕ) (bytes : Bytes) : Type 0 where
  pub first : IfSome (left_at old.world slot) (λ all. all ≡ bytes ++ drop (length bytes) all)
  pub world : new.world ≡ set_slot old.world slot (option_map (shortened (length bytes)) (old.world.slots slot))
  pub kept : new.failed_last ≡ old.failed_last
  pub never_fall : NeverFall old.faults new.faults

shorten_none : (s : Option Slot) → s ≡ option_map (shortened 0) s
unfolding shortened
shorten_none None = refl
shorten_none (Some (Writing name)) = refl
shorten_none (Some (Reading name None)) = refl
shorten_none (Some (Reading name (Some left))) = refl

shorten_more : (k n : ℕ) (s : Option Slot) → option_map (shortened n) (option_map (shortened k) s) ≡ option_map (shortened (k + n)) s
unfolding shortened
shorten_more k n None = refl
shorten_more k n (Some (Writing name)) = refl
shorten_more k n (Some (Reading name None)) = refl
shorten_more k n (Some (Reading name (Some left))) = ap (λ (rest : Bytes). Some (Reading name (Some rest))) (drop-drop n k left)

first_none : (o : Option Bytes) → IfSome o (λ all. all ≡ [] ++ drop 0 all)
first_none None = tt
first_none (Some all) = refl

length_more : (bytes buffer : Bytes) (n : ℕ) → n ≤ length buffer → length bytes + n ≡ length (bytes ++ take n buffer)
length_more bytes buffer n fits = omega (arith, length-append bytes (take n buffer), length-take-le n buffer fits)

-- a count that rose after another did not fall rose
rose_more : (a b c : ℕ) → a ≤ b → Rose b c → Rose a c
unfolding Rose
rose_more a b c le rose = omega arith

-- where more bytes than the limit are the first of all, all are more
longer : (o : Option Bytes) (bytes : Bytes) (limit : ℕ) → IfSome o (λ all. all ≡ bytes ++ drop (length bytes) all) → limit < length bytes → IfSome o (λ all. limit < length all)
longer None bytes limit first beyond = tt
longer (Some all) bytes limit first beyond = omega (arith, ap length first, length-append bytes (drop (length bytes) all))

split_more : (all bytes buffer : Bytes) (n : ℕ) → all ≡ bytes ++ drop (length bytes) all → take n buffer ≡ take n (drop (length bytes) all) → n ≤ length buffer
    → all ≡ (bytes ++ take n buffer) ++ drop (length (bytes ++ take n buffer)) all
split_more all bytes buffer n split same fits =
    split
    ∙ ap (λ (rest : Bytes). bytes ++ rest) (sym (take-append-drop n (drop (length bytes) all)))
    ∙ ap (λ (front : Bytes). bytes ++ (front ++ drop n (drop (length bytes) all))) (sym same)
    ∙ sym (append_assoc bytes (take n buffer) (drop n (drop (length bytes) all)))
    ∙ ap (λ (rest : Bytes). (bytes ++ take n buffer) ++ rest) (drop-drop n (length bytes) all ∙ ap (λ (k : ℕ). drop k all) (length_more bytes buffer n fits))

first_more : (s : Option Slot) (bytes buffer : Bytes) (n : ℕ) → n ≤ length buffer
    → IfSome (option_and_then left_of s) (λ all. all ≡ bytes ++ drop (length bytes) all)
    → IfSome (option_and_then left_of (option_map (shortened (length bytes)) s)) (λ left. Moves left buffer n)
    → IfSome (option_and_then left_of s) (λ all. all ≡ (bytes ++ take n buffer) ++ drop (length (bytes ++ take n buffer)) all)
unfolding shortened left_of
first_more None bytes buffer n fits first moves = tt
first_more (Some (Writing name)) bytes buffer n fits first moves = tt
first_more (Some (Reading name None)) bytes buffer n fits first moves = tt
first_more (Some (Reading name (Some all))) bytes buffer n fits first moves = split_more all bytes buffer n first moves.moved fits

-- no count of faults falls from a state to itself, or over two steps
pub never_fall_refl : (f : Faults) → NeverFall f f
never_fall_refl f = record { reading = omega arith; writing = omega arith; printing = omega arith }

pub never_fall_trans : (f g h : Faults) → NeverFall f g → NeverFall g h → NeverFall f h
never_fall_trans f g h p q = record { reading = omega arith; writing = omega arith; printing = omega arith }

-- at first nothing was taken
pub taken_none : (s : State) (slot : ℕ) → Taken s s slot []
unfolding left_at
taken_none s slot = record {
  first = first_none (left_at s.world slot);
  world = sym (set_slot-same s.world slot _ (shorten_none (s.world.slots slot)));
  kept = refl;
  never_fall = never_fall_refl s.faults;
}

-- what the slot has after something was taken
pub slots_after : (old new : State) (slot : ℕ) (bytes : Bytes) → Taken old new slot bytes
    → new.world.slots slot ≡ option_map (shortened (length bytes)) (old.world.slots slot)
slots_after old new slot bytes t = ap (λ (w : World). w.slots slot) t.world ∙ slots-set_slot-same old.world slot _

pub taken_more : (old mid new : State) (slot n : ℕ) (bytes buffer : Bytes)
    → Taken old mid slot bytes → Takes mid new slot buffer n → Taken old new slot (bytes ++ take n buffer)
unfolding left_at
taken_more old mid new slot n bytes buffer t m =
    let there = slots_after old mid slot bytes t in
    record {
      first = first_more (old.world.slots slot) bytes buffer n m.fits t.first (subst (λ (s : Option Slot). IfSome (option_and_then left_of s) (λ left. Moves left buffer n)) there m.moves);
      world =
          m.world
          ∙ ap (λ (w : World). set_slot w slot (option_map (shortened n) (mid.world.slots slot))) t.world
          ∙ set_slot-set_slot old.world slot _ _
          ∙ ap (λ (s : Option Slot). set_slot old.world slot (option_map (shortened n) s)) there
          ∙ ap (set_slot old.world slot) (shorten_more (length bytes) n (old.world.slots slot) ∙ ap (λ (k : ℕ). option_map (shortened k) (old.world.slots slot)) (length_more bytes buffer n m.fits));
      kept = m.kept ∙ t.kept;
      never_fall = never_fall_trans _ _ _ t.never_fall m.never_fall;
    }

reads_shortened : (n : ℕ) (s : Option Slot) → Reads s → Reads (option_map (shortened n) s)
unfolding Reads shortened
reads_shortened n (Some (Reading name left)) r = tt
reads_shortened n (Some (Writing name)) r = r
reads_shortened n None r = r

pub reads_after : (old new : State) (slot : ℕ) (bytes : Bytes) → Reads (old.world.slots slot) → Taken old new slot bytes → Reads (new.world.slots slot)
reads_after old new slot bytes r t = subst Reads (sym (slots_after old new slot bytes t)) (reads_shortened (length bytes) (old.world.slots slot) r)

-- all but the slot is as it was
pub drains : (old new : State) (slot : ℕ) (bytes : Bytes) → Reads (old.world.slots slot) → Taken old new slot bytes → Drains old new slot
drains old new slot bytes r t = record {
  reads = reads_after old new slot bytes r t;
  others = ap (λ (w : World). set_slot w slot None) t.world ∙ set_slot-set_slot old.world slot _ None;
  never_fall = t.never_fall;
}

-- the same where a call on the way changed nothing of the world
name_shortened : (n : ℕ) (s : Option Slot) → unwrap_or (option_map name_of (option_map (shortened n) s)) [] ≡ unwrap_or (option_map name_of s) []
unfolding name_of shortened
name_shortened n None = refl
name_shortened n (Some (Reading name left)) = refl
name_shortened n (Some (Writing name)) = refl

name_after : (old new : State) (slot : ℕ) (bytes : Bytes) → Taken old new slot bytes → name_at new.world slot ≡ name_at old.world slot
unfolding name_at
name_after old new slot bytes t = ap (λ (s : Option Slot). unwrap_or (option_map name_of s) []) (slots_after old new slot bytes t) ∙ name_shortened (length bytes) (old.world.slots slot)

files_after : (old new : State) (slot : ℕ) (bytes : Bytes) → Taken old new slot bytes → new.world.files ≡ old.world.files
unfolding set_slot
files_after old new slot bytes t = ap (λ (w : World). w.files) t.world

-- the answers of taking all, one for each way out
pub gives_fault : (old mid new : State) (slot limit : ℕ) (bytes : Bytes) → Reads (old.world.slots slot) → Taken old mid slot bytes
    → FailsReading mid new (name_at mid.world slot) → TakeAllGives old new slot limit (Err Fault)
gives_fault old mid new slot limit bytes r t f =
    let d = drains old mid slot bytes r t in
    record {
      drains = record {
        reads = subst (λ (w : World). Reads (w.slots slot)) (sym f.world) d.reads;
        others = ap (λ (w : World). set_slot w slot None) f.world ∙ d.others;
        never_fall = never_fall_trans _ _ _ t.never_fall f.never_fall;
      };
      answer = (
        (λ told. f.named (subst IsSome (sym (files_after old mid slot bytes t)) told) ∙ ap (λ (n : Name). Some n) (name_after old mid slot bytes t)),
        rose_more old.faults.reading mid.faults.reading new.faults.reading t.never_fall.reading f.rose,
      );
    }

pub gives_size : (old new : State) (slot limit : ℕ) (bytes : Bytes) → Reads (old.world.slots slot) → Taken old new slot bytes
    → limit < length bytes → TakeAllGives old new slot limit (Err Size)
gives_size old new slot limit bytes r t beyond = record {
  drains = drains old new slot bytes r t;
  answer = (t.kept, longer (left_at old.world slot) bytes limit t.first beyond);
}

pub gives_memory : (old new : State) (slot limit : ℕ) (bytes : Bytes) → Reads (old.world.slots slot) → Taken old new slot bytes
    → TakeAllGives old new slot limit (Err Memory)
gives_memory old new slot limit bytes r t = record { drains = drains old new slot bytes r t; answer = t.kept }

-- where nothing is left, the bytes are all
whole : (s : Option Slot) (bytes buffer : Bytes)
    → IfSome (option_and_then left_of s) (λ all. all ≡ bytes ++ drop (length bytes) all)
    → IfSome (option_and_then left_of (option_map (shortened (length bytes)) s)) (λ left. Moves left buffer 0)
    → IfSome (option_and_then left_of s) (λ all. bytes ≡ all)
unfolding shortened left_of
whole None bytes buffer first moves = tt
whole (Some (Writing name)) bytes buffer first moves = tt
whole (Some (Reading name None)) bytes buffer first moves = tt
whole (Some (Reading name (Some all))) bytes buffer first moves = sym (first ∙ ap (λ (rest : Bytes). bytes ++ rest) (moves.ended refl) ∙ append-nil bytes)

pub gives_bytes : (old mid new : State) (slot limit : ℕ) (bytes : Vec ℕ Global) (buffer : Bytes) → Reads (old.world.slots slot) → Taken old mid slot bytes.items
    → Takes mid new slot buffer 0 → vec_len bytes ≤ limit → TakeAllGives old new slot limit (Ok bytes)
unfolding left_at
gives_bytes old mid new slot limit bytes buffer r t m within =
    let there = slots_after old mid slot bytes.items t in
    record {
      drains = drains old new slot _ r (taken_more old mid new slot 0 bytes.items buffer t m);
      answer = (
        m.kept ∙ t.kept,
        whole (old.world.slots slot) bytes.items buffer t.first (subst (λ (s : Option Slot). IfSome (option_and_then left_of s) (λ left. Moves left buffer 0)) there m.moves),
        within,
      );
    }

-- the same where the call that failed says why
pub gives_stop : (old mid new : State) (slot limit : ℕ) (bytes buffer : Bytes) (stop : DeskStop) → Reads (old.world.slots slot) → Taken old mid slot bytes
    → TakeGives mid new slot buffer (Err stop) → TakeAllGives old new slot limit (Err (read_stop_of stop))
gives_stop old mid new slot limit bytes buffer Failed r t f = gives_fault old mid new slot limit bytes r t f
gives_stop old mid new slot limit bytes buffer NoMemory r t f = absurd f

-- what holds of an error holds of a result that is that error
pub at_err : (P : Result (Vec ℕ Global) ReadStop → Type 0) (r : Result (Vec ℕ Global) ReadStop) (e : ReadStop) → IsErrAnd r (λ x. x ≡ e) → P (Err e) → P r
at_err P (Ok v) e h p = absurd h
at_err P (Err x) e h p = subst (λ (y : ReadStop). P (Err y)) (sym h) p

-- a buffer that was written whole holds what was written
pub written : (buffer items : Bytes) (room : ℕ) → length buffer ≡ room → take room (buffer ++ drop (length buffer) items) ≡ buffer
written buffer items room same = ap (λ (k : ℕ). take k (buffer ++ drop (length buffer) items)) (sym same) ∙ take-append_seam buffer (drop (length buffer) items)
