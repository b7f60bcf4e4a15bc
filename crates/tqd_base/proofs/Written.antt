-- A slot that writes, from the making of its file to its end.
use Rattle.std.proofs.Common.{ℕ, ◌≡◌, None, sym, ◌∙◌, ap, subst}
use Rattle.std.specs.Prelude.{IfSome}
use Rattle.tqd_base.specs.World.{World, State, Name, Bytes, Writes, HasNoSlot, name_of, append, print}
use Rattle.tqd_base.specs.Calls.{Makes, Puts, Prints}
use Rattle.tqd_base.proofs.Worlds.{slots-set_slot-same}

pub made_writes : (old new : State) (name : Name) (slot : ℕ) → Makes old new name slot → Writes (new.world.slots slot)
unfolding Writes
made_writes old new name slot m = subst Writes (sym (ap (λ (w : World). w.slots slot) m.world ∙ slots-set_slot-same _ slot _)) tt

pub put_slots : (old new : State) (slot : ℕ) (piece : Bytes) (n : ℕ) → Puts old new slot piece → new.world.slots n ≡ old.world.slots n
unfolding append
put_slots old new slot piece n p = ap (λ (w : World). w.slots n) p.world

pub printed_slots : (old new : State) (piece : Bytes) (n : ℕ) → Prints old new piece → new.world.slots n ≡ old.world.slots n
unfolding print
printed_slots old new piece n p = ap (λ (w : World). w.slots n) p.world

-- without an open slot no name has one
pub idle_has_no_slot : (w : World) (name : Name) → ((n : ℕ) → w.slots n ≡ None) → HasNoSlot w name
unfolding HasNoSlot
idle_has_no_slot w name idle n = subst (λ (s : _). IfSome s (λ slot. name_of slot ≡ name → ⊥)) (sym (idle n)) tt

pub idle_still : (new old : State) (name : Name) → new ≡ old → ((n : ℕ) → old.world.slots n ≡ None) → HasNoSlot new.world name
idle_still new old name same idle = idle_has_no_slot new.world name (λ n. ap (λ (s : State). s.world.slots n) same ∙ idle n)
