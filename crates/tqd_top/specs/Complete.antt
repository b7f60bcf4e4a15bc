-- The answers where no count of faults rises.
use Rattle.std.specs.Prelude.{◌≡◌, ◌<◌, ◌≤◌, Bool, List, length, Ok, Err}
use Rattle.tqd_base.specs.World.{World, State, Name, Bytes, Rose}
use Rattle.tqd_instance.specs.declared.job.Job.{Job}
use Rattle.tree_checker.specs.declared.rejection.Verdict.TheVariants.{Optimal, NoPurchase, Rejected as ShowsNothing}
use Rattle.tree_checker.specs.Verdict.{verdict}
use Rattle.tree_checker.specs.CheckFrom.{IsTooLong}
use Rattle.plan_report.specs.declared.file.InputFile.TheVariants.{Tree as TreeFile, Old}
use Rattle.plan_report.specs.declared.fault.FileFault.TheVariants.{Size, NoSupplier}
use Rattle.tqd_instance.specs.Plan.{units}
use Rattle.tqd_instance.specs.Least.{Least, HasNoPurchase}
use Rattle.tqd_top.specs.declared.answer.Target.TheVariants.{Out}
use Rattle.tqd_top.specs.declared.answer.Answer.{Answer}
use Rattle.tqd_top.specs.declared.answer.Answer.TheVariants.{Solved, Infeasible, Accepted, AcceptedNone, Rejected, Listed, Words, BadInput, WriteFault, Memory}
use Rattle.tqd_top.specs.declared.reading.NeedsRead.{NeedsRead}
use Rattle.tqd_top.specs.declared.reading.JobRead.{JobRead}
use Rattle.tqd_top.specs.Reads.{ReadsAs}
use Rattle.tqd_top.specs.JobOf.{Outcome, FaultLine}
use Rattle.order_gen.specs.GenParts.{HasPurchase}
use Rattle.requote.specs.declared.replanting.TheConstants.{OLD_MAX}
use Rattle.tqd_top.specs.BreakEven.{HasNoSupplier, HasSupplier}

-- no count of faults rose
pub record IsFaultless (old new : State) : Type 0 where
  pub reading : Rose old.faults.reading new.faults.reading → ⊥
  pub writing : Rose old.faults.writing new.faults.writing → ⊥
  pub printing : Rose old.faults.printing new.faults.printing → ⊥

-- the fault of the files
abbrev pub IsAnswerToFault : FaultLine → Answer → Type 0
IsAnswerToFault told (BadInput fault) = told.fault ≡ fault
IsAnswerToFault told Memory = Unit {0}
IsAnswerToFault told _ = ⊥

-- `solve`, where the files state a job or a fault: a least purchase, or that there is none, for this very job; or the
-- fault
abbrev pub IsAnswerToSolve : Outcome JobRead → Answer → Type 0
IsAnswerToSolve (Err told) answer = IsAnswerToFault told answer
IsAnswerToSolve (Ok read) (Solved plan amount) = Least read.job (units plan)
IsAnswerToSolve (Ok read) Infeasible = HasNoPurchase read.job
IsAnswerToSolve (Ok read) Memory = Unit {0}
IsAnswerToSolve (Ok read) _ = ⊥

-- `check`, where the files state a job and this is the text of the tree: what the text shows of the job; or that it is
-- too long
abbrev pub IsAnswerToText : Job → Bytes → Answer → Type 0
IsAnswerToText job text (Accepted cost) = verdict job text ≡ Optimal cost
IsAnswerToText job text AcceptedNone = verdict job text ≡ NoPurchase
IsAnswerToText job text (Rejected rejection) = verdict job text ≡ ShowsNothing rejection
IsAnswerToText job text (BadInput fault) = (fault ≡ Size TreeFile) × IsTooLong job text
IsAnswerToText job text Memory = Unit {0}
IsAnswerToText job text _ = ⊥

-- and where they state a fault
abbrev pub IsAnswerToCheck : Bool → World → Name → Outcome JobRead → Answer → Type 0
IsAnswerToCheck absent_is_empty w tree (Err told) answer = IsAnswerToFault told answer
IsAnswerToCheck absent_is_empty w tree (Ok read) answer =
    (text : Bytes) → ReadsAs absent_is_empty w tree text → IsAnswerToText read.job text answer

-- `requote`, where the files state a job and this is the text of the old tree: a least purchase, or that there is none,
-- for this very job, where the text is not too long; or that it is
abbrev pub IsAnswerToOld : Job → Bytes → Answer → Type 0
IsAnswerToOld job text (Solved plan amount) = Least job (units plan) × (length text ≤ OLD_MAX)
IsAnswerToOld job text Infeasible = HasNoPurchase job × (length text ≤ OLD_MAX)
IsAnswerToOld job text (BadInput fault) = (fault ≡ Size Old) × (OLD_MAX < length text)
IsAnswerToOld job text Memory = Unit {0}
IsAnswerToOld job text _ = ⊥

-- and where they state a fault
abbrev pub IsAnswerToRequote : Bool → World → Name → Outcome JobRead → Answer → Type 0
IsAnswerToRequote absent_is_empty w old (Err told) answer = IsAnswerToFault told answer
IsAnswerToRequote absent_is_empty w old (Ok read) answer =
    (text : Bytes) → ReadsAs absent_is_empty w old text → IsAnswerToOld read.job text answer

-- `needs`, where the files state needs or a fault
abbrev pub IsAnswerToNeeds : Outcome NeedsRead → Answer → Type 0
IsAnswerToNeeds (Err told) answer = IsAnswerToFault told answer
IsAnswerToNeeds (Ok read) Listed = Unit {0}
IsAnswerToNeeds (Ok read) Memory = Unit {0}
IsAnswerToNeeds (Ok read) _ = ⊥

-- `make`
abbrev pub IsAnswerToMake : Answer → Type 0
IsAnswerToMake Listed = Unit {0}
IsAnswerToMake Memory = Unit {0}
IsAnswerToMake _ = ⊥

-- `scenarios`, where the files state jobs or a fault
abbrev pub IsAnswerToCompare : Outcome (List Job) → Answer → Type 0
IsAnswerToCompare (Err told) answer = IsAnswerToFault told answer
IsAnswerToCompare (Ok jobs) Listed = Unit {0}
IsAnswerToCompare (Ok jobs) Memory = Unit {0}
IsAnswerToCompare (Ok jobs) _ = ⊥

-- `winners`, where the files state a job or a fault
abbrev pub IsAnswerToTable : Outcome JobRead → Answer → Type 0
IsAnswerToTable (Err told) answer = IsAnswerToFault told answer
IsAnswerToTable (Ok read) Listed = Unit {0}
IsAnswerToTable (Ok read) Memory = Unit {0}
IsAnswerToTable (Ok read) _ = ⊥

-- `break-even`, where the files state a job or a fault: a cut where a purchase is feasible, and that none is where none
-- is; or that no supplier has this name; or the fault
abbrev pub IsAnswerToCut : Name → Outcome JobRead → Answer → Type 0
IsAnswerToCut supplier (Err told) answer = IsAnswerToFault told answer
IsAnswerToCut supplier (Ok read) Listed = HasPurchase read.job × HasSupplier read supplier
IsAnswerToCut supplier (Ok read) Infeasible = HasNoPurchase read.job × HasSupplier read supplier
IsAnswerToCut supplier (Ok read) (BadInput fault) = HasNoSupplier read supplier × (fault ≡ NoSupplier)
IsAnswerToCut supplier (Ok read) Memory = Unit {0}
IsAnswerToCut supplier (Ok read) _ = ⊥

-- words of no form, also where a count rises: the fault or the want of memory comes before the text is printed
abbrev pub IsAnswerToNoForm : Answer → Type 0
IsAnswerToNoForm Words = Unit {0}
IsAnswerToNoForm (WriteFault Out) = Unit {0}
IsAnswerToNoForm Memory = Unit {0}
IsAnswerToNoForm _ = ⊥
