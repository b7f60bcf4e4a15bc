-- What the files of a command state, or the first fault, in the order in which they are read: the orders, the bill, its
-- explosion, the offers, the terms, the job. A file that is due and not there is empty on a desk that reads such names
-- so; on any other desk nothing is stated then. A file that comes after a fault has no part in it.
use Rattle.std.specs.Prelude.{◌≡◌, ◌⊎◌, Bool, [], length, IsSome, Option, None, Some, Result, Ok, Err, if◌then◌else◌, nat_lt}
use Rattle.std.specs.Result.{result_map_both}
use Rattle.tqd_base.specs.declared.limits.TheConstants.{FILE_MAX}
use Rattle.tqd_base.specs.declared.memory.Stop.TheVariants.{Refused}
use Rattle.tqd_base.specs.World.{World, Name, Bytes}
use Rattle.bom_reader.specs.Bill.{OrdersData, BillData}
use Rattle.bom_reader.specs.Orders.{orders_in}
use Rattle.bom_reader.specs.Lines.{bill_in}
use Rattle.bom_explode.specs.Structure.{structure_of}
use Rattle.bom_explode.specs.Explosion.{Explodes}
use Rattle.bom_explode.specs.declared.fault.ExplodeFault.{ExplodeFault}
use Rattle.offer_reader.specs.Offers.{Wanted}
use Rattle.offer_reader.specs.Book.{book_in}
use Rattle.offer_reader.specs.Terms.{terms_in}
use Rattle.tqd_instance.specs.Built.{IsJobOf, Passes, Refuses}
use Rattle.tqd_instance.specs.declared.parts.JobFault.{JobFault}
use Rattle.plan_report.specs.FaultText.{fault_text}
use Rattle.plan_report.specs.declared.file.InputFile.{InputFile}
use Rattle.plan_report.specs.declared.file.InputFile.TheVariants.{Orders, Bill, Offers, Terms}
use Rattle.plan_report.specs.declared.fault.FileFault.{FileFault}
use Rattle.plan_report.specs.declared.fault.FileFault.TheVariants.{Size, Orders as InOrders, Bill as InBill, Explode as InExplosion, Offers as InOffers, Terms as InTerms, Job as InJob}
use Rattle.tqd_top.specs.declared.reading.NeedsRead.{NeedsRead}
use Rattle.tqd_top.specs.declared.reading.OffersRead.{OffersRead}
use Rattle.tqd_top.specs.declared.reading.JobRead.{JobRead}
use Rattle.tqd_top.specs.Reads.{ReadsAs}
use Rattle.command_words.specs.Words.{FilesNamed}

-- a fault, and the line that tells it
pub record FaultLine : Type 0 where
  pub fault : FileFault
  pub text : Bytes

-- a value, or the first fault
abbrev pub Outcome : Type 0 → Type 0
Outcome V = Result V FaultLine

-- a fault whose line names no part and no supplier
abbrev pub plainly : FileFault → FaultLine
plainly fault = record { fault = fault; text = fault_text [] [] [] fault }

-- a fault whose line names parts of a bill
abbrev pub told_by_bill : BillData → FileFault → FaultLine
told_by_bill bill fault = record { fault = fault; text = fault_text bill.names [] [] fault }

-- a fault whose line names goods and suppliers
abbrev pub told_by_offers : OffersRead → FileFault → FaultLine
told_by_offers read fault =
    record { fault = fault; text = fault_text read.bill.names read.needs.goods read.book.suppliers fault }

-- what the bytes of a file state by its reader, whose faults are of this kind
abbrev pub outcome_by : {V F : Type 0} → (F → FileFault) → Result V F → Outcome V
outcome_by kind answer = result_map_both (λ value. value) (λ fault. plainly (kind fault)) answer

-- a file that is longer than may be read has that fault, before all others
abbrev pub sized : {V : Type 0} → InputFile → (Bytes → Outcome V) → Bytes → Outcome V
sized file stated bytes = if nat_lt FILE_MAX (length bytes) then Err (plainly (Size file)) else stated bytes

-- the file of a name gives this outcome
pub record Gives {V : Type 0} (absent_is_empty : Bool) (w : World) (name : Name) (stated : Bytes
    → Outcome V) (outcome : Outcome V) : Type 0 where
  pub bytes : Bytes
  pub reads : ReadsAs absent_is_empty w name bytes
  pub outcome_is : stated bytes ≡ outcome

-- the outcome of two steps: what the next one makes of the value of the first, or the fault of the first
abbrev pub Then : {V W : Type 0} → (Outcome V → Type 0) → (V → Outcome W → Type 0) → Outcome W → Type 0
Then {V = V} First Next (Ok value) = (before : V) × First (Ok before) × Next before (Ok value)
Then {V = V} First Next (Err told) = First (Err told) ⊎ ((before : V) × First (Ok before) × Next before (Err told))

-- an outcome that is stated, and, where this is known, no other is
pub record IsOnly {V : Type 0} (Known : Type 0) (States : Outcome V → Type 0) (outcome : Outcome V) : Type 0 where
  pub states : States outcome
  pub alone : Known → (other : Outcome V) → States other → other ≡ outcome

-- 1. The orders.
abbrev pub orders_stated : Bytes → Outcome OrdersData
orders_stated bytes = outcome_by InOrders (orders_in bytes)

abbrev pub OrdersOf : Bool → World → Name → Outcome OrdersData → Type 0
OrdersOf absent_is_empty w orders = Gives absent_is_empty w orders (sized Orders orders_stated)

-- 2. The bill; where there is no file of it, it has no lines.
abbrev pub without_lines : OrdersData → BillData
without_lines orders = record { names = orders.names; ordered = orders.ordered; lines = [] }

abbrev pub bill_stated : OrdersData → Bytes → Outcome BillData
bill_stated orders bytes = outcome_by InBill (bill_in orders bytes)

abbrev pub BillGives : Bool → World → Option Name → OrdersData → Outcome BillData → Type 0
BillGives absent_is_empty w None orders outcome = outcome ≡ Ok (without_lines orders)
BillGives absent_is_empty w (Some bill) orders outcome =
    Gives absent_is_empty w bill (sized Bill (bill_stated orders)) outcome

abbrev pub BillOf : Bool → World → Name → Option Name → Outcome BillData → Type 0
BillOf absent_is_empty w orders bill = Then (OrdersOf absent_is_empty w orders) (BillGives absent_is_empty w bill)

-- 3. Its explosion.
abbrev pub ExplosionGives : BillData → Outcome NeedsRead → Type 0
ExplosionGives bill (Ok read) = (read.bill ≡ bill) × Explodes (structure_of bill) (Ok read.needs)
ExplosionGives bill (Err told) =
    (fault : ExplodeFault) × (told ≡ told_by_bill bill (InExplosion fault))
    × Explodes (structure_of bill) (Err (Refused fault))

abbrev pub NeedsOf : Bool → World → Name → Option Name → Outcome NeedsRead → Type 0
NeedsOf absent_is_empty w orders bill = Then (BillOf absent_is_empty w orders bill) ExplosionGives

-- 4. The offers.
abbrev pub wanted : NeedsRead → Wanted
wanted read = record { names = read.bill.names; goods = read.needs.goods }

abbrev pub offers_stated : NeedsRead → Bytes → Outcome OffersRead
offers_stated read bytes =
    result_map_both (λ book. record { bill = read.bill; needs = read.needs; book = book })
    (λ fault. plainly (InOffers fault)) (book_in (wanted read) read.needs.units bytes)

abbrev pub OffersOf : Bool → World → FilesNamed → Outcome OffersRead → Type 0
OffersOf absent_is_empty w files =
    Then (NeedsOf absent_is_empty w files.orders files.bill)
    (λ read. Gives absent_is_empty w files.offers (sized Offers (offers_stated read)))

-- 5. The terms; where there is no file of them, there are none.
abbrev pub terms_stated : OffersRead → Bytes → Outcome OffersRead
terms_stated read bytes =
    result_map_both (λ book. record { bill = read.bill; needs = read.needs; book = book })
    (λ fault. plainly (InTerms fault))
    (terms_in (record { names = read.bill.names; goods = read.needs.goods }) read.book bytes)

abbrev pub TermsGive : Bool → World → Option Name → OffersRead → Outcome OffersRead → Type 0
TermsGive absent_is_empty w None read outcome = outcome ≡ Ok read
TermsGive absent_is_empty w (Some terms) read outcome =
    Gives absent_is_empty w terms (sized Terms (terms_stated read)) outcome

abbrev pub TermsOf : Bool → World → FilesNamed → Outcome OffersRead → Type 0
TermsOf absent_is_empty w files = Then (OffersOf absent_is_empty w files) (TermsGive absent_is_empty w files.terms)

-- 6. The job.
abbrev pub before_job : JobRead → OffersRead
before_job read = record { bill = read.bill; needs = read.needs; book = read.book }

abbrev pub JobGives : OffersRead → Outcome JobRead → Type 0
JobGives before (Ok read) = (before_job read ≡ before) × Passes before.book.parts × IsJobOf before.book.parts read.job
JobGives before (Err told) =
    (fault : JobFault) × (told ≡ told_by_offers before (InJob fault)) × Refuses before.book.parts fault

abbrev pub JobOf : Bool → World → FilesNamed → Outcome JobRead → Type 0
JobOf absent_is_empty w files = Then (TermsOf absent_is_empty w files) JobGives

-- the outcome that the files state, and where the desk tells them, no other
abbrev pub IsJobOutcome : Bool → World → FilesNamed → Outcome JobRead → Type 0
IsJobOutcome absent_is_empty w files = IsOnly (IsSome w.files) (JobOf absent_is_empty w files)

abbrev pub IsNeedsOutcome : Bool → World → Name → Option Name → Outcome NeedsRead → Type 0
IsNeedsOutcome absent_is_empty w orders bill = IsOnly (IsSome w.files) (NeedsOf absent_is_empty w orders bill)
