-- What checking the bytes that a reading slot has left does to the state of a desk, by cases on its answer.
use Rattle.std.specs.Prelude.{ℕ, ◌≡◌, ◌<◌, Option, IsSome, IfSome, Some, length, take, Result, Ok, Err}
use Rattle.tqd_base.specs.declared.limits.TheConstants.{TREE_MAX}
use Rattle.tqd_base.specs.World.{State, Bytes, Rose, left_at, name_at}
use Rattle.tqd_base.specs.Calls.{Rests}
use Rattle.tqd_base.specs.TakeAll.{Drains}
use Rattle.tqd_instance.specs.declared.job.Job.{Job}
use Rattle.tree_checker.specs.declared.rejection.Rejection.{Rejection}
use Rattle.tree_checker.specs.declared.rejection.Verdict.{Verdict}
use Rattle.tree_checker.specs.declared.checking.CheckStop.{CheckStop}
use Rattle.tree_checker.specs.declared.checking.CheckStop.TheVariants.{Fault, Size, Memory}
use Rattle.tree_checker.specs.Verdict.{verdict, IsRejectedFor}

-- a text is rejected whatever follows it
abbrev pub IsStopped : Job → Bytes → Type 0
IsStopped job text = (rejection : Rejection) × IsRejectedFor job text rejection

-- a text of more than 2 ^ 62 bytes, of which the first 2 ^ 62 are not rejected whatever follows
pub record IsTooLong (job : Job) (text : Bytes) : Type 0 where
  pub beyond : TREE_MAX < length text
  pub goes_on : IsStopped job (take TREE_MAX text) → ⊥

-- a verdict is that of a text, which is the bytes left, where they are told; and they are not too long
pub record IsVerdictOf (job : Job) (left : Option Bytes) (answer : Verdict) : Type 0 where
  pub text : Bytes
  pub is_verdict : answer ≡ verdict job text
  pub all : IfSome left (λ bytes. text ≡ bytes)
  pub within : IfSome left (λ bytes. IsTooLong job bytes → ⊥)

abbrev pub CheckFromAnswers : Job → State → State → ℕ → Result Verdict CheckStop → Type 0
CheckFromAnswers job old new slot (Ok answer) = (new.failed_last ≡ old.failed_last) × IsVerdictOf job (left_at old.world slot) answer
CheckFromAnswers job old new slot (Err Fault) = (IsSome old.world.files → new.failed_last ≡ Some (name_at old.world slot)) × Rose old.faults.reading new.faults.reading
CheckFromAnswers job old new slot (Err Size) = (new.failed_last ≡ old.failed_last) × IfSome (left_at old.world slot) (IsTooLong job)
CheckFromAnswers job old new slot (Err Memory) = Rests old new

-- the slot still reads the same file, and all but what it has left is as it was
pub record CheckFromGives (job : Job) (old new : State) (slot : ℕ) (result : Result Verdict CheckStop) : Type 0 where
  pub drains : Drains old new slot
  pub same_name : name_at new.world slot ≡ name_at old.world slot
  pub answer : CheckFromAnswers job old new slot result
