-- Where the reading of a command's files failed: at the first file that could not be read, and those before it have no
-- fault.
use Rattle.std.specs.Prelude.{ℕ, ◌≡◌, ◌+◌, Bool, List, take, slice_index_or, Option, None, Some, Ok}
use Rattle.tqd_base.specs.World.{State, Name}
use Rattle.bom_reader.specs.Bill.{OrdersData}
use Rattle.tqd_instance.specs.declared.job.Job.{Job}
use Rattle.plan_report.specs.declared.file.InputFile.{InputFile}
use Rattle.plan_report.specs.declared.file.InputFile.TheVariants.{Orders, Bill, Offers, Terms, Tree, Old, Scenario}
use Rattle.tqd_top.specs.declared.reading.NeedsRead.{NeedsRead}
use Rattle.tqd_top.specs.declared.reading.OffersRead.{OffersRead}
use Rattle.tqd_top.specs.declared.reading.JobRead.{JobRead}
use Rattle.command_words.specs.Words.{Asked, FilesNamed, ToBreakEven, ToCheck, ToCompare, ToMake, ToNeed, ToRequote, ToSolve, ToTabulate}
use Rattle.tqd_top.specs.Reads.{FailsAt}
use Rattle.tqd_top.specs.JobOf.{OrdersOf, NeedsOf, OffersOf, JobOf}
use Rattle.tqd_top.specs.Scenarios.{AreStated}

-- a file that the words name failed
abbrev pub FailsAtGiven : State → State → Option Name → Type 0
FailsAtGiven old new file = (name : Name) × (file ≡ Some name) × FailsAt old new name

-- of orders and a bill
abbrev pub IsUnreadBill : Bool → State → State → Name → Option Name → InputFile → Type 0
IsUnreadBill absent_is_empty old new orders bill Orders = FailsAt old new orders
IsUnreadBill absent_is_empty old new orders bill Bill =
    (read : OrdersData) × OrdersOf absent_is_empty old.world orders (Ok read) × FailsAtGiven old new bill
IsUnreadBill absent_is_empty old new orders bill Offers = ⊥
IsUnreadBill absent_is_empty old new orders bill Terms = ⊥
IsUnreadBill absent_is_empty old new orders bill Tree = ⊥
IsUnreadBill absent_is_empty old new orders bill Old = ⊥
IsUnreadBill absent_is_empty old new orders bill (Scenario at) = ⊥

-- of the files up to the offers
abbrev pub IsUnreadOffers : Bool → State → State → FilesNamed → InputFile → Type 0
IsUnreadOffers absent_is_empty old new files Orders =
    IsUnreadBill absent_is_empty old new files.orders files.bill Orders
IsUnreadOffers absent_is_empty old new files Bill = IsUnreadBill absent_is_empty old new files.orders files.bill Bill
IsUnreadOffers absent_is_empty old new files Offers =
    (read : NeedsRead) × NeedsOf absent_is_empty old.world files.orders files.bill (Ok read)
    × FailsAt old new files.offers
IsUnreadOffers absent_is_empty old new files Terms = ⊥
IsUnreadOffers absent_is_empty old new files Tree = ⊥
IsUnreadOffers absent_is_empty old new files Old = ⊥
IsUnreadOffers absent_is_empty old new files (Scenario at) = ⊥

-- of the files of a job
abbrev pub IsUnread : Bool → State → State → FilesNamed → InputFile → Type 0
IsUnread absent_is_empty old new files Orders = IsUnreadOffers absent_is_empty old new files Orders
IsUnread absent_is_empty old new files Bill = IsUnreadOffers absent_is_empty old new files Bill
IsUnread absent_is_empty old new files Offers = IsUnreadOffers absent_is_empty old new files Offers
IsUnread absent_is_empty old new files Terms =
    (read : OffersRead) × OffersOf absent_is_empty old.world files (Ok read) × FailsAtGiven old new files.terms
IsUnread absent_is_empty old new files Tree = ⊥
IsUnread absent_is_empty old new files Old = ⊥
IsUnread absent_is_empty old new files (Scenario at) = ⊥

-- of those and of a tree
abbrev pub IsUnreadWithTree : Bool → State → State → FilesNamed → Name → InputFile → Type 0
IsUnreadWithTree absent_is_empty old new files tree Orders = IsUnread absent_is_empty old new files Orders
IsUnreadWithTree absent_is_empty old new files tree Bill = IsUnread absent_is_empty old new files Bill
IsUnreadWithTree absent_is_empty old new files tree Offers = IsUnread absent_is_empty old new files Offers
IsUnreadWithTree absent_is_empty old new files tree Terms = IsUnread absent_is_empty old new files Terms
IsUnreadWithTree absent_is_empty old new files tree Tree =
    (read : JobRead) × JobOf absent_is_empty old.world files (Ok read) × FailsAt old new tree
IsUnreadWithTree absent_is_empty old new files tree Old = ⊥
IsUnreadWithTree absent_is_empty old new files tree (Scenario at) = ⊥

-- of those and of an old tree
abbrev pub IsUnreadWithOld : Bool → State → State → FilesNamed → Name → InputFile → Type 0
IsUnreadWithOld absent_is_empty old new files name Orders = IsUnread absent_is_empty old new files Orders
IsUnreadWithOld absent_is_empty old new files name Bill = IsUnread absent_is_empty old new files Bill
IsUnreadWithOld absent_is_empty old new files name Offers = IsUnread absent_is_empty old new files Offers
IsUnreadWithOld absent_is_empty old new files name Terms = IsUnread absent_is_empty old new files Terms
IsUnreadWithOld absent_is_empty old new files name Tree = ⊥
IsUnreadWithOld absent_is_empty old new files name Old =
    (read : JobRead) × JobOf absent_is_empty old.world files (Ok read) × FailsAt old new name
IsUnreadWithOld absent_is_empty old new files name (Scenario at) = ⊥

-- of the TERMS words of `scenarios`, after these offers: the file of a word, and the words before it state jobs
pub record IsUnreadTerms (absent_is_empty : Bool) (old new : State) (read : OffersRead) (terms : List (Option Name))
    (file : InputFile) : Type 0 where
  pub before : ℕ
  pub jobs : List Job
  pub stated : AreStated absent_is_empty old.world read (take before terms) jobs
  pub is_file : file ≡ Scenario (before + 1)
  pub fails : FailsAtGiven old new (slice_index_or terms before None)

-- of the files of `scenarios`
abbrev pub IsUnreadScenarios : Bool → State → State → FilesNamed → List (Option Name) → InputFile → Type 0
IsUnreadScenarios absent_is_empty old new files terms Orders = IsUnreadOffers absent_is_empty old new files Orders
IsUnreadScenarios absent_is_empty old new files terms Bill = IsUnreadOffers absent_is_empty old new files Bill
IsUnreadScenarios absent_is_empty old new files terms Offers = IsUnreadOffers absent_is_empty old new files Offers
IsUnreadScenarios absent_is_empty old new files terms Terms = ⊥
IsUnreadScenarios absent_is_empty old new files terms Tree = ⊥
IsUnreadScenarios absent_is_empty old new files terms Old = ⊥
IsUnreadScenarios absent_is_empty old new files terms (Scenario at) =
    (read : OffersRead) × OffersOf absent_is_empty old.world files (Ok read)
    × IsUnreadTerms absent_is_empty old new read terms (Scenario at)

-- the first file of a command that could not be read
abbrev pub IsUnreadBy : Bool → State → State → Asked → InputFile → Type 0
IsUnreadBy absent_is_empty old new (ToSolve files tree workers) file = IsUnread absent_is_empty old new files file
IsUnreadBy absent_is_empty old new (ToCheck files tree) file = IsUnreadWithTree absent_is_empty old new files tree file
IsUnreadBy absent_is_empty old new (ToNeed orders bill) file = IsUnreadBill absent_is_empty old new orders bill file
IsUnreadBy absent_is_empty old new (ToMake seed goods suppliers) file = ⊥
IsUnreadBy absent_is_empty old new (ToRequote files name tree) file =
    IsUnreadWithOld absent_is_empty old new files name file
IsUnreadBy absent_is_empty old new (ToTabulate files workers) file = IsUnread absent_is_empty old new files file
IsUnreadBy absent_is_empty old new (ToBreakEven files supplier) file = IsUnread absent_is_empty old new files file
IsUnreadBy absent_is_empty old new (ToCompare files terms workers) file =
    IsUnreadScenarios absent_is_empty old new files terms file
