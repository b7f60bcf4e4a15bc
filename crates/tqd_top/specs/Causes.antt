-- Why the answers come that do not speak of a purchase, and the status of each answer.
use Rattle.std.specs.Prelude.{ℕ, ◌≡◌, ◌⊎◌, Bool, List, Some, IsSome, Ok, Err}
use Rattle.tqd_base.specs.World.{World, State, Name, Bytes}
use Rattle.tree_checker.specs.declared.rejection.Verdict.{Verdict}
use Rattle.plan_report.specs.declared.file.InputFile.{InputFile}
use Rattle.plan_report.specs.declared.file.InputFile.TheVariants.{Tree as TreeFile}
use Rattle.plan_report.specs.declared.fault.FileFault.{FileFault}
use Rattle.plan_report.specs.declared.fault.FileFault.TheVariants.{Size}
use Rattle.plan_report.specs.FaultText.{unread_text}
use Rattle.tqd_top.specs.declared.answer.Answer.{Answer}
use Rattle.tqd_top.specs.declared.answer.Answer.TheVariants.{Solved, Infeasible, Accepted, AcceptedNone, Rejected, Listed, Words, BadInput, ReadFault, WriteFault, Memory}
use Rattle.tqd_top.specs.declared.reading.JobRead.{JobRead}
use Rattle.command_words.specs.Words.{Asked, FilesNamed, IsCheck, IsInput, ToBreakEven, ToCheck, ToCompare, ToMake, ToNeed, ToRequote, ToSolve, ToTabulate, command_of}
use Rattle.tqd_top.specs.JobOf.{IsJobOutcome, IsNeedsOutcome, FaultLine, plainly}
use Rattle.tqd_top.specs.Scenarios.{IsScenariosOutcome}
use Rattle.tqd_top.specs.Requotes.{IsOldFault}
use Rattle.tqd_top.specs.Shows.{IsLongTree, Shows, VerdictAnswer}
use Rattle.tqd_top.specs.BreakEven.{IsCutAnswer}
use Rattle.tqd_top.specs.Unread.{IsUnreadBy}

-- the status that the program ends with
abbrev pub status_of : Answer → ℕ
status_of (Solved plan amount) = 0
status_of Infeasible = 1
status_of (Accepted cost) = 0
status_of AcceptedNone = 1
status_of (Rejected rejection) = 4
status_of Listed = 0
status_of Words = 2
status_of (BadInput fault) = 3
status_of (ReadFault file) = 5
status_of (WriteFault target) = 6
status_of Memory = 7

-- the words are a `check`, its files state a job, and this is what the text of the tree shows of it
pub record IsChecked (absent_is_empty : Bool) (old : World) (words : List Name) (answer : Answer)
    (text : Bytes) : Type 0 where
  pub files : FilesNamed
  pub tree : Name
  pub is_check : IsCheck words files tree
  pub read : JobRead
  pub stated : IsJobOutcome absent_is_empty old files (Ok read)
  pub shown : Verdict
  pub shows : Shows absent_is_empty old tree read.job shown
  pub answers : VerdictAnswer shown answer text

-- the files state a job, and that of the tree is too long
pub record IsTreeFault (absent_is_empty : Bool) (w : World) (files : FilesNamed) (tree : Name)
    (told : FaultLine) : Type 0 where
  pub read : JobRead
  pub stated : IsJobOutcome absent_is_empty w files (Ok read)
  pub told_is : told ≡ plainly (Size TreeFile)
  pub long : IsLongTree absent_is_empty w tree read.job

-- the first fault of the files of a command
abbrev pub IsFaultOf : Bool → World → Asked → FaultLine → Type 0
IsFaultOf absent_is_empty w (ToSolve files tree workers) told = IsJobOutcome absent_is_empty w files (Err told)
IsFaultOf absent_is_empty w (ToCheck files tree) told =
    IsJobOutcome absent_is_empty w files (Err told) ⊎ IsTreeFault absent_is_empty w files tree told
IsFaultOf absent_is_empty w (ToNeed orders bill) told = IsNeedsOutcome absent_is_empty w orders bill (Err told)
IsFaultOf absent_is_empty w (ToMake seed goods suppliers) told = ⊥
IsFaultOf absent_is_empty w (ToRequote files old tree) told =
    IsJobOutcome absent_is_empty w files (Err told) ⊎ IsOldFault absent_is_empty w files old told
IsFaultOf absent_is_empty w (ToCompare files terms workers) told =
    IsScenariosOutcome absent_is_empty w files terms (Err told)
IsFaultOf absent_is_empty w (ToTabulate files workers) told = IsJobOutcome absent_is_empty w files (Err told)
IsFaultOf absent_is_empty w (ToBreakEven files supplier) told = IsJobOutcome absent_is_empty w files (Err told)
    ⊎ IsCutAnswer absent_is_empty w files supplier (BadInput told.fault) told.text

pub record IsBadInput (absent_is_empty : Bool) (old : World) (words : List Name) (fault : FileFault)
    (text : Bytes) : Type 0 where
  pub command : Asked
  pub words_are : command_of words ≡ Some command
  pub stated : IsFaultOf absent_is_empty old command (record { fault = fault; text = text })

-- this file of the words could not be read
pub record IsReadFault (absent_is_empty : Bool) (old new : State) (words : List Name) (file : InputFile)
    (text : Bytes) : Type 0 where
  pub command : Asked
  pub words_are : command_of words ≡ Some command
  pub unread : IsUnreadBy absent_is_empty old new command file
  pub text_is : text ≡ unread_text file

-- where the files are told, the name whose reading failed last is as it was, or one that the command reads
abbrev pub FailsOnlyInputs : State → State → List Name → Type 0
FailsOnlyInputs old new words =
    IsSome old.world.files → (new.failed_last ≡ old.failed_last)
    ⊎ ((name : Name) × IsInput words name × (new.failed_last ≡ Some name))
