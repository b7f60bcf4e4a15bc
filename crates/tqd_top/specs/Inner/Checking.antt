-- Checking the file of a tree, step by step, by cases on the answer.
use Rattle.std.specs.Prelude.{ℕ, ◌≡◌, Bool, None, Some, IsSome, IfSome, Result, Ok, Err}
use Rattle.tqd_base.specs.World.{State, Name, NeverFall, Rose, left_at, name_at, set_slot}
use Rattle.tqd_base.specs.Calls.{Opens, Rests}
use Rattle.tqd_instance.specs.declared.job.Job.{Job}
use Rattle.tree_checker.specs.declared.rejection.Verdict.{Verdict}
use Rattle.tree_checker.specs.declared.checking.CheckStop.{CheckStop}
use Rattle.tree_checker.specs.declared.checking.CheckStop.TheVariants.{Fault, Size as TooLong, Memory as WantsMemory}
use Rattle.tree_checker.specs.CheckFrom.{IsTooLong, IsVerdictOf}
use Rattle.plan_report.specs.declared.file.InputFile.TheVariants.{Tree}
use Rattle.plan_report.specs.declared.fault.FileFault.TheVariants.{Size}
use Rattle.tqd_top.specs.declared.no_value.NoValue.{NoValue}
use Rattle.tqd_top.specs.declared.no_value.NoValue.TheVariants.{Bad, Unread, Memory}
use Rattle.tqd_top.specs.JobOf.{plainly}
use Rattle.tqd_top.specs.Shows.{IsLongTree, Shows}
use Rattle.tqd_top.specs.Inner.Steps.{StopsAt, IsFileUnread, IsStill}

-- opening the file
abbrev pub OpenTreeGives : Bool → State → State → Name → Result ℕ NoValue → Type 0
OpenTreeGives absent_is_empty old new name (Ok slot) = Opens absent_is_empty old new name slot
OpenTreeGives absent_is_empty old new name (Err (Bad fault text)) = ⊥
OpenTreeGives absent_is_empty old new name (Err (Unread failed)) =
    IsStill old new × IsFileUnread old new Tree name failed
OpenTreeGives absent_is_empty old new name (Err Memory) = Rests old new

-- what halts a check that stopped
abbrev pub CheckStopGives : Result Verdict CheckStop → Result Verdict NoValue → Type 0
CheckStopGives (Ok shown) result = result ≡ Ok shown
CheckStopGives (Err Fault) result = result ≡ Err (Unread Tree)
CheckStopGives (Err TooLong) (Ok shown) = ⊥
CheckStopGives (Err TooLong) (Err halt) = StopsAt (plainly (Size Tree)) halt
CheckStopGives (Err WantsMemory) result = result ≡ Err Memory

-- checking what the slot has left, by cases on the answer
abbrev pub SlotAnswers : Job → State → State → ℕ → Result Verdict NoValue → Type 0
SlotAnswers job old new slot (Ok shown) =
    (new.failed_last ≡ old.failed_last) × IsVerdictOf job (left_at old.world slot) shown
SlotAnswers job old new slot (Err (Bad fault text)) = (new.failed_last ≡ old.failed_last)
    × (record { fault = fault; text = text.items } ≡ plainly (Size Tree))
    × IfSome (left_at old.world slot) (IsTooLong job)
SlotAnswers job old new slot (Err (Unread failed)) = (failed ≡ Tree)
    × (IsSome old.world.files → new.failed_last ≡ Some (name_at old.world slot))
    × Rose old.faults.reading new.faults.reading
SlotAnswers job old new slot (Err Memory) = new.failed_last ≡ old.failed_last

-- and closing the slot; all else is as it was
pub record CheckSlotGives (job : Job) (old new : State) (slot : ℕ) (result : Result Verdict NoValue) : Type 0 where
  pub world : new.world ≡ set_slot old.world slot None
  pub never_fall : NeverFall old.faults new.faults
  pub answer : SlotAnswers job old new slot result

-- all of that for the file of a name
abbrev pub CheckFileGives : Bool → Job → State → State → Name → Result Verdict NoValue → Type 0
CheckFileGives absent_is_empty job old new name (Ok shown) =
    Rests old new × Shows absent_is_empty old.world name job shown
CheckFileGives absent_is_empty job old new name (Err (Bad fault text)) = Rests old new
    × (record { fault = fault; text = text.items } ≡ plainly (Size Tree))
    × IsLongTree absent_is_empty old.world name job
CheckFileGives absent_is_empty job old new name (Err (Unread failed)) =
    IsStill old new × IsFileUnread old new Tree name failed
CheckFileGives absent_is_empty job old new name (Err Memory) = Rests old new
