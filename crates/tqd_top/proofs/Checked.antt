-- Opening, checking and closing the file of a tree.
use Rattle.std.proofs.Common.{ℕ, ◌≡◌, Bool, [], Option, None, Some, refl, sym, ◌∙◌, ap, subst}
use Rattle.std.specs.Prelude.{Result, Ok, Err, IsSome, IfSome, option_and_then, unwrap_or}
use Rattle.std.specs.Option.{option_map}
use Rattle.tqd_base.specs.declared.desk.DeskStop.{DeskStop}
use Rattle.tqd_base.specs.declared.desk.DeskStop.TheVariants.{Failed, Memory as NoMemory}
use Rattle.tqd_base.specs.World.{World, State, Slot, Name, Bytes, Reading, Reads, bytes_at, left_at, left_of, name_at, name_of, set_slot}
use Rattle.tqd_base.specs.Calls.{CloseGives, Closes, Opens, Rests}
use Rattle.tqd_base.specs.TakeAll.{Drains}
use Rattle.tqd_base.proofs.Worlds.{set_slot-same, set_slot-set_slot, slots-set_slot-same}
use Rattle.tqd_instance.specs.declared.job.Job.{Job}
use Rattle.tree_checker.specs.declared.rejection.Verdict.{Verdict}
use Rattle.tree_checker.specs.declared.checking.CheckStop.{CheckStop}
use Rattle.tree_checker.specs.declared.checking.CheckStop.TheVariants.{Fault, Size as TooLong, Memory as WantsMemory}
use Rattle.tree_checker.specs.CheckFrom.{CheckFromGives, IsTooLong, IsVerdictOf}
use Rattle.plan_report.specs.declared.file.InputFile.TheVariants.{Tree}
use Rattle.plan_report.specs.declared.fault.FileFault.TheVariants.{Size}
use Rattle.tqd_top.specs.declared.no_value.NoValue.{NoValue}
use Rattle.tqd_top.specs.declared.no_value.NoValue.TheVariants.{Bad, Unread, Memory}
use Rattle.tqd_top.specs.JobOf.{plainly}
use Rattle.tqd_top.specs.Inner.Steps.{StopsAt}
use Rattle.tqd_top.specs.Inner.Checking.{CheckFileGives, CheckSlotGives, OpenTreeGives, SlotAnswers, CheckStopGives}
use Rattle.tqd_top.proofs.Readings.{falls_never, rose_before, rose_later}

pub reads_some : (s : Option Slot) → Reads s → IsSome s
unfolding Reads
reads_some (Some slot) reads = refl
reads_some None reads = absurd reads

-- a slot that reads ends, whatever closing it answers
closes_by : (old new : State) (slot : ℕ) (r : Result (Unit {0}) DeskStop) → CloseGives old new slot r → Closes old new slot
closes_by old new slot (Ok done) c = c
closes_by old new slot (Err Failed) c = c.2
closes_by old new slot (Err NoMemory) c = absurd c

-- what was taken from a slot that is closed then
ended : (job : Job) (old mid new : State) (slot : ℕ) (r : Result Verdict NoValue) → Drains old mid slot → Closes mid new slot → SlotAnswers job old new slot r → CheckSlotGives job old new slot r
ended job old mid new slot r drains closes answer = record {
  world = closes.world ∙ drains.others;
  never_fall = falls_never _ mid.faults _ drains.never_fall closes.never_fall;
  answer = answer;
}

slot_checked : (job : Job) (old mid new : State) (slot : ℕ) (shown : Verdict) (c : Result (Unit {0}) DeskStop) → CheckFromGives job old mid slot (Ok shown) → CloseGives mid new slot c
    → CheckSlotGives job old new slot (Ok shown)
slot_checked job old mid new slot shown c g closed =
    let closes = closes_by mid new slot c closed in
    ended job old mid new slot (Ok shown) g.drains closes (closes.kept ∙ g.answer.0, g.answer.1)

slot_failed : (job : Job) (old mid new : State) (slot : ℕ) (c : Result (Unit {0}) DeskStop) → CheckFromGives job old mid slot (Err Fault) → CloseGives mid new slot c
    → CheckSlotGives job old new slot (Err (Unread Tree))
slot_failed job old mid new slot c g closed =
    let closes = closes_by mid new slot c closed in
    ended job old mid new slot (Err (Unread Tree)) g.drains closes (
      refl,
      (λ told. closes.kept ∙ g.answer.0 told),
      rose_before old.faults.reading mid.faults.reading new.faults.reading g.answer.1 closes.never_fall.reading,
    )

slot_long : (job : Job) (old mid new : State) (slot : ℕ) (halt : NoValue) (c : Result (Unit {0}) DeskStop) → CheckFromGives job old mid slot (Err TooLong) → CloseGives mid new slot c
    → StopsAt (plainly (Size Tree)) halt → CheckSlotGives job old new slot (Err halt)
slot_long job old mid new slot (Bad fault text) c g closed h =
    let closes = closes_by mid new slot c closed in
    ended job old mid new slot (Err (Bad fault text)) g.drains closes (closes.kept ∙ g.answer.0, sym h, g.answer.1)
slot_long job old mid new slot (Unread file) c g closed h = absurd h
slot_long job old mid new slot Memory c g closed h =
    let closes = closes_by mid new slot c closed in
    ended job old mid new slot (Err Memory) g.drains closes (closes.kept ∙ g.answer.0)

slot_wanting : (job : Job) (old mid new : State) (slot : ℕ) (c : Result (Unit {0}) DeskStop) → CheckFromGives job old mid slot (Err WantsMemory) → CloseGives mid new slot c
    → CheckSlotGives job old new slot (Err Memory)
slot_wanting job old mid new slot c g closed =
    let closes = closes_by mid new slot c closed in
    ended job old mid new slot (Err Memory) g.drains closes (closes.kept ∙ g.answer.kept)

pub slot_ended : (job : Job) (old mid new : State) (slot : ℕ) (checked : Result Verdict CheckStop) (c : Result (Unit {0}) DeskStop) (r : Result Verdict NoValue)
    → CheckFromGives job old mid slot checked → CloseGives mid new slot c → CheckStopGives checked r → CheckSlotGives job old new slot r
slot_ended job old mid new slot (Ok shown) c r g closed h = subst (CheckSlotGives job old new slot) (sym h) (slot_checked job old mid new slot shown c g closed)
slot_ended job old mid new slot (Err Fault) c r g closed h = subst (CheckSlotGives job old new slot) (sym h) (slot_failed job old mid new slot c g closed)
slot_ended job old mid new slot (Err TooLong) c (Ok shown) g closed h = absurd h
slot_ended job old mid new slot (Err TooLong) c (Err halt) g closed h = slot_long job old mid new slot halt c g closed h
slot_ended job old mid new slot (Err WantsMemory) c r g closed h = subst (CheckSlotGives job old new slot) (sym h) (slot_wanting job old mid new slot c g closed)

-- a slot that was opened
pub opened_reads : (a : Bool) (old mid : State) (name : Name) (slot : ℕ) → Opens a old mid name slot → Reads (mid.world.slots slot)
unfolding Reads
opened_reads a old mid name slot o =
    subst (λ (s : Option Slot). Reads s) (sym (ap (λ (w : World). w.slots slot) o.world ∙ slots-set_slot-same old.world slot (Some (Reading name (bytes_at old.world name))))) tt

opened_left : (a : Bool) (old mid : State) (name : Name) (slot : ℕ) → Opens a old mid name slot → left_at mid.world slot ≡ bytes_at old.world name
unfolding left_at left_of
opened_left a old mid name slot o =
    ap (option_and_then left_of) (ap (λ (w : World). w.slots slot) o.world ∙ slots-set_slot-same old.world slot (Some (Reading name (bytes_at old.world name))))

opened_name : (a : Bool) (old mid : State) (name : Name) (slot : ℕ) → Opens a old mid name slot → name_at mid.world slot ≡ name
unfolding name_at name_of
opened_name a old mid name slot o =
    ap (λ (s : Option Slot). unwrap_or (option_map name_of s) []) (ap (λ (w : World). w.slots slot) o.world ∙ slots-set_slot-same old.world slot (Some (Reading name (bytes_at old.world name))))

opened_files : (a : Bool) (old mid : State) (name : Name) (slot : ℕ) → Opens a old mid name slot → IsSome old.world.files → IsSome mid.world.files
unfolding set_slot
opened_files a old mid name slot o told = subst (λ (w : World). IsSome w.files) (sym o.world) told

-- a slot that was opened, and has ended, leaves the world as it was
closed_world : (a : Bool) (old mid new : State) (name : Name) (slot : ℕ) → Opens a old mid name slot → new.world ≡ set_slot mid.world slot None → new.world ≡ old.world
closed_world a old mid new name slot o w =
    w ∙ ap (λ (v : World). set_slot v slot None) o.world ∙ set_slot-set_slot old.world slot _ None ∙ set_slot-same old.world slot None o.fresh

closed_rests : (a : Bool) (job : Job) (old mid new : State) (name : Name) (slot : ℕ) (r : Result Verdict NoValue) → Opens a old mid name slot → CheckSlotGives job mid new slot r
    → new.failed_last ≡ mid.failed_last → Rests old new
closed_rests a job old mid new name slot r o c kept = record {
  world = closed_world a old mid new name slot o c.world;
  kept = kept ∙ o.kept;
  never_fall = falls_never _ mid.faults _ o.never_fall c.never_fall;
}

pub file_checked : (a : Bool) (job : Job) (old mid new : State) (name : Name) (slot : ℕ) (r : Result Verdict NoValue) → Opens a old mid name slot → CheckSlotGives job mid new slot r
    → CheckFileGives a job old new name r
file_checked a job old mid new name slot (Ok shown) o c =
    let of = subst (λ (left : Option Bytes). IsVerdictOf job left shown) (opened_left a old mid name slot o) c.answer.1 in (
      closed_rests a job old mid new name slot (Ok shown) o c c.answer.0,
      record { text = of.text; reads = record { readable = o.readable; all = of.all }; is_verdict = of.is_verdict; within = of.within },
    )
file_checked a job old mid new name slot (Err (Bad fault text)) o c = (
  closed_rests a job old mid new name slot (Err (Bad fault text)) o c c.answer.0,
  c.answer.1,
  record { readable = o.readable; beyond = subst (λ (left : Option Bytes). IfSome left (IsTooLong job)) (opened_left a old mid name slot o) c.answer.2 },
)
file_checked a job old mid new name slot (Err (Unread failed)) o c = (
  record { world = closed_world a old mid new name slot o c.world; never_fall = falls_never _ mid.faults _ o.never_fall c.never_fall },
  record {
    is_file = c.answer.0;
    fails = record {
      rose = rose_later old.faults.reading mid.faults.reading new.faults.reading o.never_fall.reading c.answer.2;
      named = λ told. c.answer.1 (opened_files a old mid name slot o told) ∙ ap (λ (n : Name). Some n) (opened_name a old mid name slot o);
    };
  },
)
file_checked a job old mid new name slot (Err Memory) o c = closed_rests a job old mid new name slot (Err Memory) o c c.answer

pub file_unopened : (a : Bool) (job : Job) (old new : State) (name : Name) (halt : NoValue) → OpenTreeGives a old new name (Err halt) → CheckFileGives a job old new name (Err halt)
file_unopened a job old new name (Bad fault text) o = absurd o
file_unopened a job old new name (Unread failed) o = o
file_unopened a job old new name Memory o = o
