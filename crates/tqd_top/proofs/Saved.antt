-- Making, writing and closing the file of a tree.
use Rattle.std.proofs.Common.{ℕ, ◌≡◌, Bool, true, false, [], ◌++◌, Option, None, Some, length, take, refl, sym, ◌∙◌, ap, subst, arith, inl, inr}
use Rattle.std.proofs.Math.Seq.{take-length}
use Rattle.std.specs.Prelude.{IsSome, Result, Ok, Err, if◌then◌else◌, nat_eq, unwrap_or}
use Rattle.std.specs.Option.{option_map}
use Rattle.std.specs.Cmp.Lexicographic.{pointwise}
use Rattle.tqd_base.specs.World.{World, State, Slot, Name, Bytes, Writes, Writing, append, name_at, name_of, set_file, set_slot}
use Rattle.tqd_base.specs.Calls.{Closes, Makes, Puts, PutsPrefix, Rests}
use Rattle.tqd_base.proofs.Worlds.{same_world, set_slot-same, set_slot-set_slot, slots-set_slot-same}
use Rattle.tqd_base.proofs.DeskLemmas.{same_faults, writes_some}
use Rattle.tqd_base.proofs.Written.{put_slots}
use Rattle.tqd_top.specs.declared.answer.NoReply.{NoReply}
use Rattle.tqd_top.specs.declared.answer.NoReply.TheVariants.{Tree, Memory}
use Rattle.tqd_top.specs.Inner.Saving.{CloseTreeGives, FillGives, Fills, FillsPrefix, IsSteady, MakeTreeGives, PutTreeGives, SaveGivenGives, SaveGives}
use Rattle.tqd_top.specs.SavedTree.{IsCutShort, saved}
use Rattle.tqd_top.proofs.Readings.{falls_never, rose_before, rose_later}

-- a file that is made, and then grows by a piece, has the piece
grown_file : (b : Bool) (o : Option Bytes) (piece : Bytes) → (if b then option_map (λ bytes. bytes ++ piece) (if b then Some [] else o) else (if b then Some [] else o)) ≡ (if b then Some piece else o)
grown_file true o piece = refl
grown_file false o piece = refl

grown_files : (o : Option (Name → Option Bytes)) (name piece : Bytes)
    → option_map {U = Name → Option Bytes} (λ files other. if pointwise nat_eq other name then option_map (λ bytes. bytes ++ piece) (files other) else files other)
    (option_map {U = Name → Option Bytes} (λ files other. if pointwise nat_eq other name then Some [] else files other) o)
    ≡ option_map {U = Name → Option Bytes} (λ files other. if pointwise nat_eq other name then Some piece else files other) o
grown_files None name piece = refl
grown_files (Some files) name piece = λ i. Some (λ other. grown_file (pointwise nat_eq other name) (files other) piece i)

grown_world : (w : World) (name piece : Bytes) (n : ℕ) (s : Option Slot) → append (set_slot (set_file w name []) n s) name piece ≡ set_slot (set_file w name piece) n s
unfolding append set_file set_slot
grown_world w name piece n s = same_world _ _ (grown_files w.files name piece) refl (λ m. refl)

name_made : (w : World) (name : Name) (n : ℕ) → name_at (set_slot w n (Some (Writing name))) n ≡ name
unfolding name_at name_of
name_made w name n = ap (λ (s : Option Slot). unwrap_or (option_map name_of s) []) (slots-set_slot-same w n (Some (Writing name)))

slot_beside : (w : World) (name bytes : Bytes) (n : ℕ) → w.slots n ≡ None → (set_file w name bytes).slots n ≡ None
unfolding set_file
slot_beside w name bytes n h = h

-- a slot that was made, filled and closed leaves the file with the piece, and all else as it was
filled_world : (old mid new : World) (name piece : Bytes) (n : ℕ) → old.slots n ≡ None → mid ≡ set_slot (set_file old name []) n (Some (Writing name))
    → new ≡ set_slot (append mid (name_at mid n) piece) n None → new ≡ set_file old name piece
filled_world old mid new name piece n fresh made filled =
    let open_world = set_slot (set_file old name []) n (Some (Writing name)) in
    filled
    ∙ ap (λ (w : World). set_slot (append w (name_at w n) piece) n None) made
    ∙ ap (λ (m : Name). set_slot (append open_world m piece) n None) (name_made (set_file old name []) name n)
    ∙ ap (λ (w : World). set_slot w n None) (grown_world old name piece n (Some (Writing name)))
    ∙ set_slot-set_slot (set_file old name piece) n (Some (Writing name)) None
    ∙ set_slot-same (set_file old name piece) n None (slot_beside old name piece n fresh)

pub steady_same : (s : State) → IsSteady s s
steady_same s = record { kept = refl; never_fall = same_faults s.faults }

pub steady_rests : (old new : State) → Rests old new → IsSteady old new
steady_rests old new r = record { kept = r.kept; never_fall = r.never_fall }

pub steady_then : (old mid new : State) → IsSteady old mid → IsSteady mid new → IsSteady old new
steady_then old mid new a b = record { kept = b.kept ∙ a.kept; never_fall = falls_never _ mid.faults _ a.never_fall b.never_fall }

-- written and closed
fills_by : (old mid new : State) (slot : ℕ) (piece : Bytes) → Puts old mid slot piece → Closes mid new slot → Fills old new slot piece
fills_by old mid new slot piece p c = record {
  world = c.world ∙ ap (λ (w : World). set_slot w slot None) p.world;
  steady = record { kept = c.kept ∙ p.kept; never_fall = falls_never _ mid.faults _ p.never_fall c.never_fall };
}

pub put_closed : (old mid new : State) (slot : ℕ) (text : Bytes) (r : Result (Unit {0}) NoReply) → Puts old mid slot text → CloseTreeGives mid new slot r → FillGives old new slot text r
put_closed old mid new slot text (Ok done) p c = fills_by old mid new slot text p c
put_closed old mid new slot text (Err Tree) p c = (
  rose_later old.faults.writing mid.faults.writing new.faults.writing p.never_fall.writing c.0,
  (length text, omega arith, subst (λ (t : Bytes). Fills old new slot t) (sym (take-length text)) (fills_by old mid new slot text p c.1)),
)
put_closed old mid new slot text (Err Memory) p c = absurd c

closes_by : (old new : State) (slot : ℕ) (r : Result (Unit {0}) NoReply) → CloseTreeGives old new slot r → Closes old new slot
closes_by old new slot (Ok done) c = c
closes_by old new slot (Err Tree) c = c.1
closes_by old new slot (Err Memory) c = absurd c

fills_prefix : (old mid new : State) (slot : ℕ) (text : Bytes) → PutsPrefix old mid slot text → Closes mid new slot → FillsPrefix old new slot text
fills_prefix old mid new slot text p c = (p.0, p.1, fills_by old mid new slot (take p.0 text) p.2 c)

pub put_lost : (old mid new : State) (slot : ℕ) (text : Bytes) (lost : NoReply) (r : Result (Unit {0}) NoReply) → PutTreeGives old mid slot text (Err lost) → CloseTreeGives mid new slot r
    → FillGives old new slot text (Err lost)
put_lost old mid new slot text Tree r p c =
    let closes = closes_by mid new slot r c in
    (rose_before old.faults.writing mid.faults.writing new.faults.writing p.0 closes.never_fall.writing, fills_prefix old mid new slot text p.1 closes)
put_lost old mid new slot text Memory r p c = fills_prefix old mid new slot text p (closes_by mid new slot r c)

-- made, written and closed
steady_made : (old mid new : State) (name : Name) (slot : ℕ) → Makes old mid name slot → IsSteady mid new → IsSteady old new
steady_made old mid new name slot m s = steady_then old mid new (record { kept = m.kept; never_fall = m.never_fall }) s

cut_short : (old mid new : State) (name : Name) (slot : ℕ) (text : Bytes) → Makes old mid name slot → FillsPrefix mid new slot text → IsCutShort old.world new.world name text
cut_short old mid new name slot text m f = inr (f.0, f.1, filled_world old.world mid.world new.world name (take f.0 text) slot m.fresh m.world f.2.world)

pub made_filled : (old mid new : State) (name : Name) (slot : ℕ) (text : Bytes) (r : Result (Unit {0}) NoReply) → Makes old mid name slot → FillGives mid new slot text r
    → SaveGives old new name text r
made_filled old mid new name slot text (Ok done) m f =
    (steady_made old mid new name slot m f.steady, filled_world old.world mid.world new.world name text slot m.fresh m.world f.world)
made_filled old mid new name slot text (Err Tree) m f = (
  steady_made old mid new name slot m f.1.2.steady,
  rose_later old.faults.writing mid.faults.writing new.faults.writing m.never_fall.writing f.0,
  cut_short old mid new name slot text m f.1,
)
made_filled old mid new name slot text (Err Memory) m f = (steady_made old mid new name slot m f.2.steady, cut_short old mid new name slot text m f)

pub not_made : (old new : State) (name : Name) (text : Bytes) (lost : NoReply) → MakeTreeGives old new name (Err lost) → SaveGives old new name text (Err lost)
not_made old new name text Tree m = (steady_rests old new m.1, m.0, inl m.1.world)
not_made old new name text Memory m = (steady_rests old new m, inl m.world)

-- in a file that is given, or in none
pub saved_given : (old new : State) (name : Name) (text : Bytes) (r : Result (Unit {0}) NoReply) → SaveGives old new name text r → SaveGivenGives old new (Some name) text r
unfolding saved
saved_given old new name text (Ok done) s = s
saved_given old new name text (Err Tree) s = (s.0, s.1, (name, refl, s.2))
saved_given old new name text (Err Memory) s = (s.0, (name, refl, s.1))

pub saved_none : (s : State) (text : Bytes) (done : Unit {0}) → SaveGivenGives s s None text (Ok done)
unfolding saved
saved_none s text done = (steady_same s, refl)

-- a slot that was written to is open
pub slot_after : (old mid : State) (slot : ℕ) (text : Bytes) (r : Result (Unit {0}) NoReply) → Writes (old.world.slots slot) → PutTreeGives old mid slot text r → IsSome (mid.world.slots slot)
slot_after old mid slot text (Ok done) writes p = subst (λ (s : Option Slot). IsSome s) (sym (put_slots old mid slot text slot p)) (writes_some _ writes)
slot_after old mid slot text (Err Tree) writes p = subst (λ (s : Option Slot). IsSome s) (sym (put_slots old mid slot _ slot p.1.2)) (writes_some _ writes)
slot_after old mid slot text (Err Memory) writes p = subst (λ (s : Option Slot). IsSome s) (sym (put_slots old mid slot _ slot p.2)) (writes_some _ writes)
