-- What the files of `scenarios` state, or the first fault, in the order in which they are read: the orders, the bill,
-- its explosion, the offers, and then for each TERMS word in turn its terms and the job that the offers make with them.
-- Words are numbered from 1.
use Rattle.std.specs.Prelude.{ℕ, ◌≡◌, ◌+◌, ◌<◌, Bool, List, length, take, slice_index_or, IsSome, Option, None, Some, Ok, Err}
use Rattle.tqd_base.specs.World.{World, Name, Bytes}
use Rattle.offer_reader.specs.Book.{BookData}
use Rattle.offer_reader.specs.Terms.{terms_in}
use Rattle.tqd_instance.specs.declared.job.Job.{Job}
use Rattle.tqd_instance.specs.declared.parts.JobFault.{JobFault}
use Rattle.tqd_instance.specs.Built.{IsJobOf, Passes, Refuses}
use Rattle.plan_report.specs.declared.file.InputFile.TheVariants.{Scenario}
use Rattle.plan_report.specs.declared.fault.FileFault.TheVariants.{ScenarioTerms, ScenarioJob}
use Rattle.tqd_top.specs.declared.reading.OffersRead.{OffersRead}
use Rattle.command_words.specs.Words.{FilesNamed}
use Rattle.tqd_top.specs.JobOf.{FaultLine, Gives, IsOnly, OffersOf, Outcome, Then, outcome_by, sized, told_by_offers}

-- the book of these offers with the terms that the bytes of the file of a word state
abbrev pub scenario_stated : OffersRead → ℕ → Bytes → Outcome BookData
scenario_stated read at bytes =
    outcome_by (λ fault. ScenarioTerms at fault)
    (terms_in (record { names = read.bill.names; goods = read.needs.goods }) read.book bytes)

-- the book with the terms of a word; where the word names no file, there are none
abbrev pub ScenarioTermsGive : Bool → World → OffersRead → ℕ → Option Name → Outcome BookData → Type 0
ScenarioTermsGive absent_is_empty w read at None outcome = outcome ≡ Ok read.book
ScenarioTermsGive absent_is_empty w read at (Some terms) outcome =
    Gives absent_is_empty w terms (sized (Scenario at) (scenario_stated read at)) outcome

-- the job of a book with the terms of a word
abbrev pub ScenarioJobGives : OffersRead → ℕ → BookData → Outcome Job → Type 0
ScenarioJobGives read at book (Ok job) = Passes book.parts × IsJobOf book.parts job
ScenarioJobGives read at book (Err told) =
    (fault : JobFault) × (told ≡ told_by_offers read (ScenarioJob at fault)) × Refuses book.parts fault

-- the job of a word
abbrev pub ScenarioGives : Bool → World → OffersRead → ℕ → Option Name → Outcome Job → Type 0
ScenarioGives absent_is_empty w read at terms =
    Then (ScenarioTermsGive absent_is_empty w read at terms) (ScenarioJobGives read at)

-- words state jobs, one for each word, and each that of its word
pub record AreStated (absent_is_empty : Bool) (w : World) (read : OffersRead) (terms : List (Option Name))
    (jobs : List Job) : Type 0 where
  pub as_many : length jobs ≡ length terms
  pub each : (n : ℕ) (d : Job) → n < length terms
      → ScenarioGives absent_is_empty w read (n + 1) (slice_index_or terms n None) (Ok (slice_index_or jobs n d))

-- the first word that states no job has this fault
pub record IsFirstFault (absent_is_empty : Bool) (w : World) (read : OffersRead) (terms : List (Option Name))
    (told : FaultLine) : Type 0 where
  pub before : ℕ
  pub inside : before < length terms
  pub jobs : List Job
  pub stated : AreStated absent_is_empty w read (take before terms) jobs
  pub fault :
      ScenarioGives absent_is_empty w read (before + 1) (slice_index_or terms before None) (Err told)

-- the jobs of all words, or the first fault
abbrev pub ScenariosGive : Bool → World → List (Option Name) → OffersRead → Outcome (List Job) → Type 0
ScenariosGive absent_is_empty w terms read (Ok jobs) = AreStated absent_is_empty w read terms jobs
ScenariosGive absent_is_empty w terms read (Err told) = IsFirstFault absent_is_empty w read terms told

-- after the offers
abbrev pub ScenariosOf : Bool → World → FilesNamed → List (Option Name) → Outcome (List Job) → Type 0
ScenariosOf absent_is_empty w files terms =
    Then (OffersOf absent_is_empty w files) (ScenariosGive absent_is_empty w terms)

-- the outcome that the files state, and where the desk tells them, no other
abbrev pub IsScenariosOutcome : Bool → World → FilesNamed → List (Option Name) → Outcome (List Job) → Type 0
IsScenariosOutcome absent_is_empty w files terms =
    IsOnly (IsSome w.files) (ScenariosOf absent_is_empty w files terms)
