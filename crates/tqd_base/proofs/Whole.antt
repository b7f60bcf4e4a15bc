-- A file that is opened, taken whole and closed.
use Rattle.std.proofs.Common.{ℕ, ◌≡◌, ◌<◌, ◌≤◌, Bool, Option, None, Some, [], length, refl, sym, ◌∙◌, ap, subst, arith}
use Rattle.std.specs.Prelude.{IfSome, IsSome, option_and_then, unwrap_or, Vec, Result, Ok, Err, IsErrAnd}
use Rattle.std.specs.Option.{option_map}
use Rattle.std.specs.Global.{Global}
use Rattle.tqd_base.specs.declared.desk.DeskStop.{DeskStop}
use Rattle.tqd_base.specs.declared.desk.DeskStop.TheVariants.{Failed, Memory as NoMemory}
use Rattle.tqd_base.specs.declared.read.ReadStop.{ReadStop}
use Rattle.tqd_base.specs.declared.read.ReadStop.TheVariants.{Fault, Size, Memory}
use Rattle.tqd_base.specs.Stops.{read_stop_of}
use Rattle.tqd_base.specs.World.{World, State, Name, Bytes, Slot, Reading, NeverFall, Rose, Reads, set_slot, left_at, left_of, name_of, name_at, bytes_at}
use Rattle.tqd_base.specs.Calls.{OpenGives, Opens, CloseGives, Closes}
use Rattle.tqd_base.specs.TakeAll.{TakeAllGives}
use Rattle.tqd_base.specs.ReadAll.{ReadAllGives}
use Rattle.tqd_base.proofs.Worlds.{slots-set_slot-same, set_slot-set_slot, set_slot-same}
use Rattle.tqd_base.proofs.Taken.{never_fall_trans}

-- a count that rose between two others rose
rose_after : (a b c d : ℕ) → a ≤ b → Rose b c → c ≤ d → Rose a d
unfolding Rose
rose_after a b c d before rose after = omega arith

-- what is at a slot that was opened
pub opened : (a : Bool) (old new : State) (name : Name) (slot : ℕ) → Opens a old new name slot
    → new.world.slots slot ≡ Some (Reading name (bytes_at old.world name))
opened a old new name slot o = ap (λ (w : World). w.slots slot) o.world ∙ slots-set_slot-same old.world slot _

pub opened_reads : (a : Bool) (old new : State) (name : Name) (slot : ℕ) → Opens a old new name slot → Reads (new.world.slots slot)
unfolding Reads
opened_reads a old new name slot o = subst Reads (sym (opened a old new name slot o)) tt

opened_left : (a : Bool) (old new : State) (name : Name) (slot : ℕ) → Opens a old new name slot → left_at new.world slot ≡ bytes_at old.world name
unfolding left_at left_of
opened_left a old new name slot o = ap (option_and_then left_of) (opened a old new name slot o)

opened_name : (a : Bool) (old new : State) (name : Name) (slot : ℕ) → Opens a old new name slot → name_at new.world slot ≡ name
unfolding name_at name_of
opened_name a old new name slot o = ap (λ (s : Option Slot). unwrap_or (option_map name_of s) []) (opened a old new name slot o)

opened_files : (a : Bool) (old new : State) (name : Name) (slot : ℕ) → Opens a old new name slot → new.world.files ≡ old.world.files
unfolding set_slot
opened_files a old new name slot o = ap (λ (w : World). w.files) o.world

pub some_slot : (s : Option Slot) → Reads s → IsSome s
unfolding Reads
some_slot (Some s) r = refl
some_slot None r = absurd r

-- whatever close answers, the slot has ended
closed : (old new : State) (slot : ℕ) (r : Result (Unit {0}) DeskStop) → CloseGives old new slot r → Closes old new slot
closed old new slot (Ok done) c = c
closed old new slot (Err Failed) c = c.2
closed old new slot (Err NoMemory) c = absurd c

-- once the slot is closed, the world is as it was before it was opened
back : (a : Bool) (old opened taken done : State) (name : Name) (slot : ℕ) → Opens a old opened name slot
    → set_slot taken.world slot None ≡ set_slot opened.world slot None → Closes taken done slot → done.world ≡ old.world
back a old opened taken done name slot o others c =
    c.world ∙ others ∙ ap (λ (w : World). set_slot w slot None) o.world ∙ set_slot-set_slot old.world slot _ None
    ∙ set_slot-same old.world slot None o.fresh

-- what a file that could not be opened gives
pub gives_unopened : (a : Bool) (old new : State) (name : Name) (limit : ℕ) (stop : DeskStop) (r : Result (Vec ℕ Global) ReadStop)
    → OpenGives a old new name (Err stop) → IsErrAnd r (λ e. e ≡ read_stop_of stop) → ReadAllGives a old new name limit r
gives_unopened a old new name limit stop (Ok v) o e = absurd e
gives_unopened a old new name limit Failed (Err x) o e = subst (λ (y : ReadStop). ReadAllGives a old new name limit (Err y)) (sym e) o
gives_unopened a old new name limit NoMemory (Err x) o e = subst (λ (y : ReadStop). ReadAllGives a old new name limit (Err y)) (sym e) o

-- what a file gives that was taken whole, where the world came back as it was
gives_answer : (a : Bool) (old opened taken done : State) (name : Name) (slot limit : ℕ) (r : Result (Vec ℕ Global) ReadStop)
    → Opens a old opened name slot → TakeAllGives opened taken slot limit r
    → done.world ≡ old.world → done.failed_last ≡ taken.failed_last → NeverFall old.faults done.faults → NeverFall taken.faults done.faults
    → ReadAllGives a old done name limit r
gives_answer a old opened taken done name slot limit (Ok v) o t same kept falls after = (
  record { world = same; kept = kept ∙ t.answer.0 ∙ o.kept; never_fall = falls },
  record {
    readable = o.readable;
    all = subst (λ (l : Option Bytes). IfSome l (λ all. v.items ≡ all)) (opened_left a old opened name slot o) t.answer.1;
    within = omega (arith, t.answer.2, v.ok);
  },
)
gives_answer a old opened taken done name slot limit (Err Fault) o t same kept falls after = record {
  world = same;
  rose = rose_after old.faults.reading opened.faults.reading taken.faults.reading done.faults.reading o.never_fall.reading t.answer.1 after.reading;
  named = λ told. kept ∙ t.answer.0 (subst IsSome (sym (opened_files a old opened name slot o)) told) ∙ ap (λ (n : Name). Some n) (opened_name a old opened name slot o);
  never_fall = falls;
}
gives_answer a old opened taken done name slot limit (Err Size) o t same kept falls after = (
  record { world = same; kept = kept ∙ t.answer.0 ∙ o.kept; never_fall = falls },
  record {
    readable = o.readable;
    beyond = subst (λ (l : Option Bytes). IfSome l (λ all. limit < length all)) (opened_left a old opened name slot o) t.answer.1;
  },
)
gives_answer a old opened taken done name slot limit (Err Memory) o t same kept falls after =
    record { world = same; kept = kept ∙ t.answer ∙ o.kept; never_fall = falls }

-- and what one gives that was opened
pub gives_closed : (a : Bool) (old opened taken done : State) (name : Name) (slot limit : ℕ) (r : Result (Vec ℕ Global) ReadStop) (c : Result (Unit {0}) DeskStop)
    → Opens a old opened name slot → TakeAllGives opened taken slot limit r → CloseGives taken done slot c
    → ReadAllGives a old done name limit r
gives_closed a old opened taken done name slot limit r close o t c =
    let ends = closed taken done slot close c in
    let same = back a old opened taken done name slot o t.drains.others ends in
    let falls = never_fall_trans _ _ _ o.never_fall (never_fall_trans _ _ _ t.drains.never_fall ends.never_fall) in
    gives_answer a old opened taken done name slot limit r o t same ends.kept falls ends.never_fall
