-- Writing a text piece by piece.
use Rattle.std.proofs.Common.{ℕ, zero, suc, ◌≡◌, ◌+◌, ◌≤◌, ◌++◌, Bool, true, false, Option, None, Some, [], length, take, refl, sym, ◌∙◌, ap, subst, arith, append_assoc, append-nil, length-append}
use Rattle.std.specs.Prelude.{if◌then◌else◌, nat_eq, Result, Ok, Err, IsErrAnd, unwrap_or}
use Rattle.std.specs.Option.{option_map}
use Rattle.std.specs.Cmp.Lexicographic.{pointwise}
use Rattle.std.proofs.lemmas.List.{take-append-le}
use Rattle.std.proofs.Math.Seq.{take-append-add}
use Rattle.tqd_base.specs.World.{World, State, Name, Bytes, Slot, Writes, Rose, NeverFall, append, name_at, name_of}
use Rattle.tqd_base.specs.Calls.{Puts, PutsPrefix}
use Rattle.tqd_base.proofs.Worlds.{same_world}
use Rattle.tqd_base.proofs.DeskLemmas.{puts_nothing, same_faults}
use Rattle.tqd_base.proofs.Written.{put_slots}
use Rattle.bound_tree.specs.declared.write.WriteStop.{WriteStop}
use Rattle.bound_tree.specs.declared.write.WriteStop.TheVariants.{Fault, Memory}
use Rattle.bound_tree.specs.WriteTree.{WriteGives}

-- a text stands written, and the slot still writes
pub record IsWriting (old new : State) (slot : ℕ) (text : Bytes) : Type 0 where
  pub puts : Puts old new slot text
  pub writes : Writes (new.world.slots slot)

take_none : (n : ℕ) → take {A = ℕ} n [] ≡ []
take_none zero = refl
take_none (suc n) = refl

pub begin : (s : State) (slot : ℕ) (text : Bytes) → text ≡ [] → Writes (s.world.slots slot) → IsWriting s s slot text
begin s slot text e w =
    let p = puts_nothing s s slot [] refl refl (same_faults s.faults) in
    record { puts = subst (Puts s s slot) (take_none p.0 ∙ sym e) p.2; writes = w }

twice_bytes : (o : Option Bytes) (a b : Bytes) → option_map (λ bytes. bytes ++ b) (option_map (λ bytes. bytes ++ a) o) ≡ option_map (λ bytes. bytes ++ (a ++ b)) o
twice_bytes None a b = refl
twice_bytes (Some bytes) a b = ap (λ (t : Bytes). Some t) (append_assoc bytes a b)

-- the files with a piece more at the end of one that is there
abbrev added : Name → Bytes → (Name → Option Bytes) → Name → Option Bytes
added name piece files other = if pointwise nat_eq other name then option_map (λ bytes. bytes ++ piece) (files other) else files other

twice_test : (is : Bool) (o : Option Bytes) (a b : Bytes)
    → (if is then option_map (λ bytes. bytes ++ b) (if is then option_map (λ bytes. bytes ++ a) o else o) else (if is then option_map (λ bytes. bytes ++ a) o else o))
    ≡ (if is then option_map (λ bytes. bytes ++ (a ++ b)) o else o)
twice_test true o a b = twice_bytes o a b
twice_test false o a b = refl

twice_files : (files : Option (Name → Option Bytes)) (name : Name) (a b : Bytes) → option_map (added name b) (option_map (added name a) files) ≡ option_map (added name (a ++ b)) files
twice_files None name a b = refl
twice_files (Some files) name a b = λ i. Some (λ other. twice_test (pointwise nat_eq other name) (files other) a b i)

append_twice : (w : World) (name : Name) (a b : Bytes) → append (append w name a) name b ≡ append w name (a ++ b)
unfolding append
append_twice w name a b = same_world _ _ (twice_files w.files name a b) refl (λ n. refl)

same_name : (old new : State) (slot : ℕ) (text : Bytes) → Puts old new slot text → name_at new.world slot ≡ name_at old.world slot
unfolding name_at
same_name old new slot text p = ap (λ (s : Option Slot). unwrap_or (option_map name_of s) []) (put_slots old new slot text slot p)

falls_twice : (a b c : State) → NeverFall a.faults b.faults → NeverFall b.faults c.faults → NeverFall a.faults c.faults
falls_twice a b c f g = record { reading = omega arith; writing = omega arith; printing = omega arith }

puts_twice : (old mid new : State) (slot : ℕ) (a b : Bytes) → Puts old mid slot a → Puts mid new slot b → Puts old new slot (a ++ b)
puts_twice old mid new slot a b p q = record {
  world = q.world ∙ (ap (λ (name : Name). append mid.world name b) (same_name old mid slot a p)
      ∙ (ap (λ (w : World). append w (name_at old.world slot) b) p.world ∙ append_twice old.world (name_at old.world slot) a b));
  kept = q.kept ∙ p.kept;
  never_fall = falls_twice old mid new p.never_fall q.never_fall;
}

-- the slot still writes
pub still : (old new : State) (slot : ℕ) (text : Bytes) → Puts old new slot text → Writes (old.world.slots slot) → Writes (new.world.slots slot)
still old new slot text p w = subst Writes (sym (put_slots old new slot text slot p)) w

pub more : (old mid new : State) (slot : ℕ) (a b text : Bytes) → text ≡ a ++ b → IsWriting old mid slot a → Puts mid new slot b → IsWriting old new slot text
more old mid new slot a b text e w p = record {
  puts = subst (Puts old new slot) (sym e) (puts_twice old mid new slot a b w.puts p);
  writes = still mid new slot b p w.writes;
}

rose_after : (before mid now : ℕ) → before ≤ mid → Rose mid now → Rose before now
unfolding Rose
rose_after before mid now h r = omega arith

-- a prefix of a piece after a text is a prefix of them together, and of more
prefix_after : (old mid new : State) (slot : ℕ) (a b rest text : Bytes) → text ≡ a ++ (b ++ rest) → Puts old mid slot a → PutsPrefix mid new slot b → PutsPrefix old new slot text
prefix_after old mid new slot a b rest text e p (n, within, q) =
    let fits : length a + n ≤ length (a ++ (b ++ rest)) = omega (arith, length-append a (b ++ rest), length-append b rest) in
    let cut : take (length a + n) (a ++ (b ++ rest)) ≡ a ++ take n b = take-append-add a (b ++ rest) n ∙ ap (λ (t : Bytes). a ++ t) (take-append-le n b rest within) in
    subst (PutsPrefix old new slot) (sym e) (length a + n, fits, subst (Puts old new slot) (sym cut) (puts_twice old mid new slot a (take n b) p q))

pub halts : (old mid new : State) (slot : ℕ) (a b rest text : Bytes) (stop : WriteStop) → text ≡ a ++ (b ++ rest) → IsWriting old mid slot a
    → WriteGives mid new slot b (Err stop) → WriteGives old new slot text (Err stop)
halts old mid new slot a b rest text Fault e w (rose, prefix) =
    (rose_after old.faults.writing mid.faults.writing new.faults.writing w.puts.never_fall.writing rose, prefix_after old mid new slot a b rest text e w.puts prefix)
halts old mid new slot a b rest text Memory e w prefix = prefix_after old mid new slot a b rest text e w.puts prefix

pub ends : (old mid new : State) (slot : ℕ) (a b text : Bytes) (r : Result (Unit {0}) WriteStop) → text ≡ a ++ b → IsWriting old mid slot a
    → WriteGives mid new slot b r → WriteGives old new slot text r
ends old mid new slot a b text (Ok done) e w p = subst (Puts old new slot) (sym e) (puts_twice old mid new slot a b w.puts p)
ends old mid new slot a b text (Err stop) e w p = halts old mid new slot a b [] text stop (e ∙ ap (λ (t : Bytes). a ++ t) (sym (append-nil b))) w p

-- memory is wanting before the next piece
pub stops : (old mid : State) (slot : ℕ) (a rest text : Bytes) → text ≡ a ++ rest → IsWriting old mid slot a → WriteGives old mid slot text (Err Memory)
stops old mid slot a rest text e w = halts old mid mid slot a [] rest text Memory e w (puts_nothing mid mid slot [] refl refl (same_faults mid.faults))

-- what holds of an error holds of an answer that is that error
pub at_err : (P : Result (Unit {0}) WriteStop → Type 0) (r : Result (Unit {0}) WriteStop) (stop : WriteStop) → IsErrAnd r (λ x. x ≡ stop) → P (Err stop) → P r
at_err P (Ok done) stop h p = absurd h
at_err P (Err x) stop h p = subst (λ (y : WriteStop). P (Err y)) (sym h) p
