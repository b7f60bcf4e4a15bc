-- The texts of the faults of input files.
use Rattle.std.specs.Prelude.{ℕ, ◌<◌, List, [], ◌∷◌, ◌++◌, length, slice_index, codes, decimal}
use Rattle.tqd_base.specs.World.{Bytes}
use Rattle.bom_reader.specs.declared.fault.BillFault.{BillFault}
use Rattle.bom_reader.specs.declared.fault.BillFault.TheVariants.{Rows, TooManyLines, Name, Quantity, TooManyNames, Twice}
use Rattle.bom_explode.specs.declared.fault.ExplodeFault.{ExplodeFault}
use Rattle.bom_explode.specs.declared.fault.ExplodeFault.TheVariants.{Circle, NeedRange}
use Rattle.tqd_instance.specs.declared.parts.JobFault.{JobFault}
use Rattle.tqd_instance.specs.declared.parts.JobFault.TheVariants.{TooManyGoods, MissingPrice, ShareOrder, WinnerOrder}
use Rattle.plan_report.specs.Named.{name_at, good_at}
use Rattle.plan_report.specs.RowText.{in_row, rows_cause}
use Rattle.plan_report.specs.OfferText.{offer_cause}
use Rattle.plan_report.specs.TermText.{term_cause}
use Rattle.plan_report.specs.declared.file.InputFile.{InputFile}
use Rattle.plan_report.specs.declared.file.InputFile.TheVariants.{Orders, Bill, Offers, Terms, Tree, Old, Scenario}
use Rattle.plan_report.specs.declared.fault.FileFault.{FileFault}
use Rattle.plan_report.specs.declared.fault.FileFault.TheVariants.{Size, Orders as InOrders, Bill as InBill, Explode as InExplosion, Offers as InOffers, Terms as InTerms, Job as InJob, ScenarioTerms, ScenarioJob, NoSupplier}

-- what belongs to a scenario: a word and the number of the scenario, from 1
abbrev pub of_scenario : Bytes → ℕ → Bytes
of_scenario word at = word ++ codes " " ++ decimal at

abbrev pub file_name : InputFile → Bytes
file_name Orders = codes "orders"
file_name Bill = codes "bill"
file_name Offers = codes "offers"
file_name Terms = codes "terms"
file_name Tree = codes "tree"
file_name Old = codes "old tree"
file_name (Scenario at) = of_scenario (codes "terms") at

abbrev pub size_cause : InputFile → Bytes
size_cause Tree = codes "more than 4611686018427387904 bytes"
size_cause Orders = codes "more than 16777216 bytes"
size_cause Bill = codes "more than 16777216 bytes"
size_cause Offers = codes "more than 16777216 bytes"
size_cause Terms = codes "more than 16777216 bytes"
size_cause Old = codes "more than 268435456 bytes"
size_cause (Scenario at) = codes "more than 16777216 bytes"

abbrev pub bill_cause : BillFault → Bytes
bill_cause (Rows fault) = rows_cause fault
bill_cause TooManyLines = codes "more than 100000 lines"
bill_cause (Name at) = in_row at (codes "bad name")
bill_cause (Quantity at) = in_row at (codes "bad quantity")
bill_cause (TooManyNames at) = in_row at (codes "more than 20000 names")
bill_cause (Twice at) = in_row at (codes "given twice")

abbrev pub explode_cause : List Bytes → ExplodeFault → Bytes
explode_cause names (Circle n) = codes "circle through " ++ name_at names n
explode_cause names (NeedRange n) = codes "need of " ++ name_at names n ++ codes " above 100000000"

-- a supplier offers a part in some interval, and not in the one that begins at this number
abbrev pub no_price : Bytes → ℕ → Bytes → Bytes
no_price part from supplier = codes "no price of " ++ part ++ codes " from " ++ decimal from ++ codes " at " ++ supplier

-- the faults of a job; goods and suppliers are numbers of the job
abbrev pub job_cause : List Bytes → List ℕ → List Bytes → JobFault → Bytes
job_cause names goods suppliers (TooManyGoods n) = decimal n ++ codes " goods, at most 1000"
job_cause names goods suppliers (MissingPrice supplier from good) = no_price (good_at names goods good) from (name_at suppliers supplier)
job_cause names goods suppliers (ShareOrder supplier) = codes "share of " ++ name_at suppliers supplier ++ codes ": low above high"
job_cause names goods suppliers WinnerOrder = codes "winners: low above high"

-- the file that a fault names
abbrev pub fault_file : FileFault → Bytes
fault_file (Size file) = file_name file
fault_file (InOrders fault) = codes "orders"
fault_file (InBill fault) = codes "bill"
fault_file (InExplosion fault) = codes "bill"
fault_file (InOffers fault) = codes "offers"
fault_file (InTerms fault) = codes "terms"
fault_file (InJob fault) = codes "job"
fault_file (ScenarioTerms at fault) = of_scenario (codes "terms") at
fault_file (ScenarioJob at fault) = of_scenario (codes "job") at
fault_file NoSupplier = codes "offers"

-- what a fault says of it
abbrev pub fault_cause : List Bytes → List ℕ → List Bytes → FileFault → Bytes
fault_cause names goods suppliers (Size file) = size_cause file
fault_cause names goods suppliers (InOrders fault) = bill_cause fault
fault_cause names goods suppliers (InBill fault) = bill_cause fault
fault_cause names goods suppliers (InExplosion fault) = explode_cause names fault
fault_cause names goods suppliers (InOffers fault) = offer_cause fault
fault_cause names goods suppliers (InTerms fault) = term_cause fault
fault_cause names goods suppliers (InJob fault) = job_cause names goods suppliers fault
fault_cause names goods suppliers (ScenarioTerms at fault) = term_cause fault
fault_cause names goods suppliers (ScenarioJob at fault) = job_cause names goods suppliers fault
fault_cause names goods suppliers NoSupplier = codes "no such supplier"

unfoldable pub fault_text : List Bytes → List ℕ → List Bytes → FileFault → Bytes
fault_text names goods suppliers fault = codes "bad input: " ++ fault_file fault ++ codes ": " ++ fault_cause names goods suppliers fault ++ 10 ∷ []

-- the names, goods and suppliers that a fault tells of are there
abbrev pub IsExplodeFaultNamed : List Bytes → ExplodeFault → Type 0
IsExplodeFaultNamed names (Circle n) = n < length names
IsExplodeFaultNamed names (NeedRange n) = n < length names

abbrev pub IsGoodNamed : List Bytes → List ℕ → ℕ → Type 0
IsGoodNamed names goods k = (k < length goods) × (slice_index goods k < length names)

abbrev pub IsJobFaultNamed : List Bytes → List ℕ → List Bytes → JobFault → Type 0
IsJobFaultNamed names goods suppliers (TooManyGoods n) = Unit {0}
IsJobFaultNamed names goods suppliers (MissingPrice supplier from good) = IsGoodNamed names goods good × (supplier < length suppliers)
IsJobFaultNamed names goods suppliers (ShareOrder supplier) = supplier < length suppliers
IsJobFaultNamed names goods suppliers WinnerOrder = Unit {0}

abbrev pub IsFaultNamed : List Bytes → List ℕ → List Bytes → FileFault → Type 0
IsFaultNamed names goods suppliers (Size file) = Unit {0}
IsFaultNamed names goods suppliers (InOrders fault) = Unit {0}
IsFaultNamed names goods suppliers (InBill fault) = Unit {0}
IsFaultNamed names goods suppliers (InExplosion fault) = IsExplodeFaultNamed names fault
IsFaultNamed names goods suppliers (InOffers fault) = Unit {0}
IsFaultNamed names goods suppliers (InTerms fault) = Unit {0}
IsFaultNamed names goods suppliers (InJob fault) = IsJobFaultNamed names goods suppliers fault
IsFaultNamed names goods suppliers (ScenarioTerms at fault) = Unit {0}
IsFaultNamed names goods suppliers (ScenarioJob at fault) = IsJobFaultNamed names goods suppliers fault
IsFaultNamed names goods suppliers NoSupplier = Unit {0}

-- a file that could not be read
unfoldable pub unread_text : InputFile → Bytes
unread_text file = codes "cannot read " ++ file_name file ++ 10 ∷ []
