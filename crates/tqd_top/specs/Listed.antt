-- What each command lists.
use Rattle.std.specs.Prelude.{ℕ, ◌≡◌, Bool, List, Option, Some, Ok}
use Rattle.tqd_base.specs.World.{World, Name, Bytes}
use Rattle.tqd_instance.specs.declared.job.Job.{Job}
use Rattle.tqd_instance.specs.Job.{least_winners}
use Rattle.scenarios.specs.Costs.{AreCosts, IsWinnerTable}
use Rattle.plan_report.specs.NeedsText.{needs_text}
use Rattle.plan_report.specs.CostsText.{scenarios_text, winners_text}
use Rattle.tqd_top.specs.declared.answer.Answer.TheVariants.{Listed}
use Rattle.tqd_top.specs.declared.reading.NeedsRead.{NeedsRead}
use Rattle.tqd_top.specs.declared.reading.JobRead.{JobRead}
use Rattle.command_words.specs.Words.{Asked, FilesNamed, ToBreakEven, ToCheck, ToCompare, ToMake, ToNeed, ToRequote, ToSolve, ToTabulate, command_of}
use Rattle.tqd_top.specs.JobOf.{IsJobOutcome, IsNeedsOutcome}
use Rattle.tqd_top.specs.Scenarios.{IsScenariosOutcome}
use Rattle.tqd_top.specs.MakeAnswer.{SumsUp}
use Rattle.tqd_top.specs.BreakEven.{IsCutAnswer}

-- the files state these needs
pub record IsNeedsListed (absent_is_empty : Bool) (w : World) (orders : Name) (bill : Option Name)
    (text : Bytes) : Type 0 where
  pub read : NeedsRead
  pub stated : IsNeedsOutcome absent_is_empty w orders bill (Ok read)
  pub text_is : text ≡ needs_text read.bill.names read.needs.goods read.needs.units

-- the text tells what a least purchase of the job costs with each greatest number of winners, from the least number up
pub record IsTableText (job : Job) (text : Bytes) : Type 0 where
  pub costs : List (Option ℕ)
  pub is_table : IsWinnerTable job costs
  pub text_is : text ≡ winners_text (least_winners job) costs

-- the files state a job, and this is the text of its winner table
pub record IsTableListed (absent_is_empty : Bool) (w : World) (files : FilesNamed) (text : Bytes) : Type 0 where
  pub read : JobRead
  pub stated : IsJobOutcome absent_is_empty w files (Ok read)
  pub table : IsTableText read.job text

-- the text tells what a least purchase of each of these jobs costs, or that none is feasible, in order
pub record AreCostsTold (jobs : List Job) (text : Bytes) : Type 0 where
  pub costs : List (Option ℕ)
  pub are_costs : AreCosts jobs costs
  pub text_is : text ≡ scenarios_text costs

-- the files state a job for each TERMS word, and this is the text of their least costs
pub record AreCostsListed (absent_is_empty : Bool) (w : World) (files : FilesNamed) (terms : List (Option Name))
    (text : Bytes) : Type 0 where
  pub jobs : List Job
  pub stated : IsScenariosOutcome absent_is_empty w files terms (Ok jobs)
  pub told : AreCostsTold jobs text

-- the text that a command lists: the needs of `needs`, the summary of `make`, the least costs of `scenarios`, the table
-- of `winners`, the cut of `break-even`
abbrev pub IsListedBy : Bool → World → Asked → Bytes → Type 0
IsListedBy absent_is_empty w (ToSolve files tree workers) text = ⊥
IsListedBy absent_is_empty w (ToCheck files tree) text = ⊥
IsListedBy absent_is_empty w (ToNeed orders bill) text = IsNeedsListed absent_is_empty w orders bill text
IsListedBy absent_is_empty w (ToMake seed goods suppliers) text = SumsUp seed goods suppliers text
IsListedBy absent_is_empty w (ToRequote files old tree) text = ⊥
IsListedBy absent_is_empty w (ToCompare files terms workers) text = AreCostsListed absent_is_empty w files terms text
IsListedBy absent_is_empty w (ToTabulate files workers) text = IsTableListed absent_is_empty w files text
IsListedBy absent_is_empty w (ToBreakEven files supplier) text =
    IsCutAnswer absent_is_empty w files supplier Listed text

pub record IsListed (absent_is_empty : Bool) (old : World) (words : List Name) (text : Bytes) : Type 0 where
  pub command : Asked
  pub words_are : command_of words ≡ Some command
  pub lists : IsListedBy absent_is_empty old command text
