-- What each run of the program promises, whatever the files and the number of workers: what each answer means, which
-- answers come where no device fails, and what holds of every answer.
use Rattle.std.specs.Prelude.{ℕ, ◌≡◌, ◌⊎◌, Bool, List, Option, None, Some, IsSome, IfSome, Ok}
use Rattle.tqd_base.specs.World.{World, State, Name, Bytes, IsIdle, NeverFall, bytes_at, print}
use Rattle.tqd_instance.specs.declared.job.Job.{Job}
use Rattle.tqd_instance.specs.declared.plan.Plan.{Plan}
use Rattle.tqd_instance.specs.Plan.{units, IsSizedFor}
use Rattle.tqd_instance.specs.Cost.{cost}
use Rattle.tqd_instance.specs.Least.{Least, HasNoPurchase}
use Rattle.tree_checker.specs.declared.rejection.Rejection.{Rejection}
use Rattle.tree_checker.specs.declared.rejection.Verdict.TheVariants.{Optimal, NoPurchase}
use Rattle.tree_checker.specs.Verdict.{verdict}
use Rattle.tree_checker.specs.CheckFrom.{IsTooLong}
use Rattle.verdict_laws.specs.Shown.{HasLeast}
use Rattle.plan_report.specs.declared.fault.FileFault.{FileFault}
use Rattle.plan_report.specs.declared.file.InputFile.{InputFile}
use Rattle.plan_report.specs.AnswerText.{accepted_text, infeasible_text}
use Rattle.plan_report.specs.Named.{good_at, name_at}
use Rattle.plan_report.specs.PlanText.{plan_text}
use Rattle.tqd_top.specs.declared.answer.Answer.TheVariants.{Solved, Infeasible, Accepted, AcceptedNone, Rejected, Listed, Words, BadInput, ReadFault, WriteFault, Memory}
use Rattle.tqd_top.specs.declared.answer.Target.{Target}
use Rattle.tqd_top.specs.declared.answer.Ended.{Ended}
use Rattle.tqd_top.specs.declared.reading.NeedsRead.{NeedsRead}
use Rattle.tqd_top.specs.declared.reading.JobRead.{JobRead}
use Rattle.command_words.specs.Forms.{usage_text}
use Rattle.command_words.specs.Words.{FilesNamed, IsBreakEven, IsCheck, IsMake, IsNeeds, IsNoForm, IsRequote, IsScenarios, IsSolve, IsWinners}
use Rattle.tqd_top.specs.Reads.{ReadsAs}
use Rattle.tqd_top.specs.JobOf.{IsJobOutcome, JobOf, NeedsOf, Outcome}
use Rattle.tqd_top.specs.Scenarios.{ScenariosOf}
use Rattle.tqd_top.specs.Requotes.{Seeks}
use Rattle.tqd_top.specs.Causes.{FailsOnlyInputs, IsBadInput, IsChecked, IsReadFault, status_of}
use Rattle.tqd_top.specs.BreakEven.{IsCutInfeasible}
use Rattle.tqd_top.specs.Listed.{IsListed}
use Rattle.tqd_top.specs.Output.{IsWant, IsWriteFault, Leaves, Says}
use Rattle.tqd_top.specs.Complete.{IsAnswerToCheck, IsAnswerToCompare, IsAnswerToCut, IsAnswerToMake, IsAnswerToNeeds, IsAnswerToNoForm, IsAnswerToRequote, IsAnswerToSolve, IsAnswerToTable, IsFaultless}

-- `solve` or `requote`, whose files state a job, found a plan of it: no feasible purchase costs less. The tree of a
-- `requote` grew from the text of OLD
pub record SolvedClause (absent_is_empty : Bool) (old new : World) (words : List Name) (plan : Plan)
    (amount : ℕ) : Type 0 where
  pub files : FilesNamed
  pub tree : Option Name
  pub from : Option Bytes
  pub seeks : Seeks absent_is_empty old words files tree from
  pub read : JobRead
  pub stated : IsJobOutcome absent_is_empty old files (Ok read)
  pub sized : IsSizedFor read.job plan
  pub least : Least read.job (units plan)
  pub cost_is : amount ≡ cost read.job (units plan)
  pub leaves : Leaves old new tree read.job from (Some (units plan))
      (plan_text read.job (units plan) (good_at read.bill.names read.needs.goods) (name_at read.book.suppliers))
      (Optimal amount)

-- `solve` or `requote`, whose files state a job, found that no purchase is feasible. The tree of a `requote` grew from
-- the text of OLD
pub record IsSolvedInfeasible (absent_is_empty : Bool) (old new : World) (words : List Name) : Type 0 where
  pub files : FilesNamed
  pub tree : Option Name
  pub from : Option Bytes
  pub seeks : Seeks absent_is_empty old words files tree from
  pub read : JobRead
  pub stated : IsJobOutcome absent_is_empty old files (Ok read)
  pub none : HasNoPurchase read.job
  pub leaves : Leaves old new tree read.job from None infeasible_text NoPurchase

-- no purchase is feasible: of the job of a `solve` or `requote`, or of a `break-even`, which prints that and saves
-- nothing
abbrev pub InfeasibleClause : Bool → World → World → List Name → Type 0
InfeasibleClause absent_is_empty old new words = IsSolvedInfeasible absent_is_empty old new words
    ⊎ Says old new (IsCutInfeasible absent_is_empty old words)

-- `check`, whose files state a job, accepted a cost: whoever wrote the text of TREE, it is that of a purchase of this
-- cost than which no feasible purchase costs less. The file, where told, is not too long.
pub record AcceptedClause (absent_is_empty : Bool) (old new : World) (words : List Name) (amount : ℕ) : Type 0 where
  pub files : FilesNamed
  pub tree : Name
  pub is_check : IsCheck words files tree
  pub read : JobRead
  pub stated : IsJobOutcome absent_is_empty old files (Ok read)
  pub text : Bytes
  pub reads : ReadsAs absent_is_empty old tree text
  pub within : IfSome (bytes_at old tree) (λ bytes. IsTooLong read.job bytes → ⊥)
  pub verdict_is : verdict read.job text ≡ Optimal amount
  pub least : HasLeast read.job text amount
  pub world : new ≡ print old (accepted_text (Some amount))

-- `check`, whose files state a job, accepted that there is no purchase: whoever wrote the text of TREE, none is
-- feasible
pub record AcceptedNoneClause (absent_is_empty : Bool) (old new : World) (words : List Name) : Type 0 where
  pub files : FilesNamed
  pub tree : Name
  pub is_check : IsCheck words files tree
  pub read : JobRead
  pub stated : IsJobOutcome absent_is_empty old files (Ok read)
  pub text : Bytes
  pub reads : ReadsAs absent_is_empty old tree text
  pub within : IfSome (bytes_at old tree) (λ bytes. IsTooLong read.job bytes → ⊥)
  pub verdict_is : verdict read.job text ≡ NoPurchase
  pub none : HasNoPurchase read.job
  pub world : new ≡ print old (accepted_text None)

-- a run on these words took a desk without an open slot from `old` to `new`, and ended so
pub record IsProgramRun (absent_is_empty : Bool) (old new : State) (words : List Name) (ended : Ended) : Type 0 where
  -- What each answer means. A plan is a least purchase, and its tree shows that.
  pub solved : (plan : Plan) (amount : ℕ) → ended.answer ≡ Solved plan amount
      → SolvedClause absent_is_empty old.world new.world words plan amount
  -- Infeasible comes where there is no feasible purchase, and the tree of a `solve` or `requote` shows that.
  pub infeasible : ended.answer ≡ Infeasible → InfeasibleClause absent_is_empty old.world new.world words
  -- A cost that `check` accepts is that of a least purchase, which the tree has.
  pub accepted : (amount : ℕ) → ended.answer ≡ Accepted amount
      → AcceptedClause absent_is_empty old.world new.world words amount
  -- And where `check` accepts that there is none, no purchase is feasible.
  pub accepted_none : ended.answer ≡ AcceptedNone → AcceptedNoneClause absent_is_empty old.world new.world words
  -- What `check` rejects, the checker rejects so.
  pub rejected : (rejection : Rejection) → ended.answer ≡ Rejected rejection
      → Says old.world new.world (IsChecked absent_is_empty old.world words (Rejected rejection))
  -- What is listed is what the command asks for: the needs that the files of `needs` state, the summary of the job that
  -- `make` makes, the least costs of the jobs of `scenarios` and of the job of `winners`, the least cut of the supplier
  -- of `break-even`.
  pub listed : ended.answer ≡ Listed → Says old.world new.world (IsListed absent_is_empty old.world words)
  -- The usage is printed where the words are of no form.
  pub usage : ended.answer ≡ Words → Says old.world new.world (λ text. IsNoForm words × (text ≡ usage_text))
  -- A fault is the first one of the files.
  pub bad_input : (fault : FileFault) → ended.answer ≡ BadInput fault
      → Says old.world new.world (IsBadInput absent_is_empty old.world words fault)
  -- A file that could not be read is the first one, and its count of faults rose.
  pub read_fault : (file : InputFile) → ended.answer ≡ ReadFault file
      → Says old.world new.world (IsReadFault absent_is_empty old new words file)
  -- Where the tree or the output could not be written, its count of faults rose.
  pub write_fault : (target : Target) → ended.answer ≡ WriteFault target
      → IsWriteFault absent_is_empty old new words target
  -- Memory may be wanting at any time.
  pub memory : ended.answer ≡ Memory → IsWant absent_is_empty old new words
  -- Which answers come. Without a fault, where the desk tells its files, `solve` answers for the job or the fault that
  -- they state, or wants memory.
  pub solve_complete : (files : FilesNamed) (tree : Option Name) (outcome : Outcome JobRead) → IsSolve words files tree
      → IsSome old.world.files
      → JobOf absent_is_empty old.world files outcome → IsFaultless old new → IsAnswerToSolve outcome ended.answer
  -- And `check` says what the text of the tree shows of the job, or what the fault is, or wants memory.
  pub check_complete : (files : FilesNamed) (tree : Name) (outcome : Outcome JobRead) → IsCheck words files tree
      → IsSome old.world.files
      → JobOf absent_is_empty old.world files outcome → IsFaultless old new
      → IsAnswerToCheck absent_is_empty old.world tree outcome ended.answer
  -- And `needs` answers for the needs or the fault.
  pub needs_complete : (orders : Name) (bill : Option Name) (outcome : Outcome NeedsRead) → IsNeeds words orders bill
      → IsSome old.world.files
      → NeedsOf absent_is_empty old.world orders bill outcome → IsFaultless old new
      → IsAnswerToNeeds outcome ended.answer
  -- And `make` makes its summary, or wants memory.
  pub make_complete : (seed goods suppliers : ℕ) → IsMake words seed goods suppliers → IsFaultless old new
      → IsAnswerToMake ended.answer
  -- And `requote` answers for the job, whatever the old tree holds, or says that its text is too long or what the fault
  -- is, or wants memory.
  pub requote_complete : (files : FilesNamed) (name : Name) (tree : Option Name) (outcome : Outcome JobRead)
      → IsRequote words files name tree → IsSome old.world.files
      → JobOf absent_is_empty old.world files outcome → IsFaultless old new
      → IsAnswerToRequote absent_is_empty old.world name outcome ended.answer
  -- And `scenarios` lists the least costs of the jobs, or says what the fault is, or wants memory.
  pub scenarios_complete : (files : FilesNamed) (terms : List (Option Name)) (outcome : Outcome (List Job))
      → IsScenarios words files terms → IsSome old.world.files
      → ScenariosOf absent_is_empty old.world files terms outcome → IsFaultless old new
      → IsAnswerToCompare outcome ended.answer
  -- And `winners` makes its table of the job, or says what the fault is, or wants memory.
  pub winners_complete : (files : FilesNamed) (outcome : Outcome JobRead) → IsWinners words files
      → IsSome old.world.files
      → JobOf absent_is_empty old.world files outcome → IsFaultless old new → IsAnswerToTable outcome ended.answer
  -- And `break-even` answers for the job and the supplier, or says what the fault is, or wants memory.
  pub break_even_complete : (files : FilesNamed) (supplier : Name) (outcome : Outcome JobRead)
      → IsBreakEven words files supplier → IsSome old.world.files
      → JobOf absent_is_empty old.world files outcome → IsFaultless old new
      → IsAnswerToCut supplier outcome ended.answer
  -- Words of no form bring Words, or the fault or the want of memory that comes before its text is printed.
  pub no_form : IsNoForm words → IsAnswerToNoForm ended.answer
  -- What holds of every answer. The status is that of the answer.
  pub status : ended.status ≡ status_of ended.answer
  -- No slot is open at the end.
  pub idle : IsIdle new.world
  -- Reading failed last as before the run, or at a file that the words name as an input.
  pub inputs : FailsOnlyInputs old new words
  -- No count of faults fell.
  pub never_fall : NeverFall old.faults new.faults
