-- What holds of the book of a scenario, and that it has one job or one first fault.
use Rattle.std.proofs.Common.{ℕ, ◌≡◌, Bool, List, length, Option, None, Some, refl, sym, ◌∙◌, ap, subst}
use Rattle.std.specs.Prelude.{Result, Ok, Err, nat_lt}
use Rattle.std.specs.Result.{result_map_both}
use Rattle.tqd_base.specs.declared.limits.TheConstants.{FILE_MAX}
use Rattle.tqd_base.specs.World.{World, Name, Bytes}
use Rattle.bom_reader.specs.Rows.{Row}
use Rattle.offer_reader.specs.Book.{BookData, IsBook}
use Rattle.offer_reader.specs.Offers.{Wanted}
use Rattle.offer_reader.specs.Terms.{book_with, checked_terms, term_rows, terms_in}
use Rattle.offer_reader.specs.declared.term_fault.TermFault.{TermFault}
use Rattle.tqd_instance.specs.declared.job.Job.{Job}
use Rattle.tqd_instance.specs.declared.parts.JobFault.{JobFault}
use Rattle.tqd_instance.specs.Parts.{IsWellFormed}
use Rattle.tqd_instance.specs.Built.{Refuses}
use Rattle.tqd_instance.proofs.FromsExist.{job_one}
use Rattle.plan_report.specs.FaultText.{IsJobFaultNamed}
use Rattle.plan_report.specs.declared.fault.FileFault.{FileFault}
use Rattle.plan_report.specs.declared.fault.FileFault.TheVariants.{ScenarioTerms, ScenarioJob}
use Rattle.tqd_top.specs.declared.reading.OffersRead.{OffersRead}
use Rattle.tqd_top.specs.JobOf.{FaultLine, IsOnly, Outcome, outcome_by, plainly, told_by_offers}
use Rattle.tqd_top.specs.Scenarios.{ScenarioJobGives, ScenarioTermsGive, scenario_stated}
use Rattle.tqd_top.specs.Inner.ReadBook.{IsReadBook, IsScenarioBook}
use Rattle.tqd_top.proofs.OneOutcome.{one_refusal, passes_or_refuses}
use Rattle.tqd_top.proofs.ReadFacts.{book_keeps, job_fault_named, mapped_ok, one_value, sized_ok, step_ok}

outcome_ok : {V F : Type 0} (kind : F → FileFault) (r : Result V F) (value : V) → outcome_by kind r ≡ Ok value → r ≡ Ok value
outcome_ok kind r value e = let m = mapped_ok (λ v. v) (λ fault. plainly (kind fault)) r value e in m.1 ∙ ap (λ v. Ok v) (sym m.2)

-- terms keep the suppliers
suppliers_stay : (wants : Wanted) (book : BookData) (bytes : Bytes) (after : BookData) → terms_in wants book bytes ≡ Ok after → after.suppliers ≡ book.suppliers
suppliers_stay wants book bytes after e =
    let s = step_ok (λ (rows : List Row). result_map_both (book_with book) (λ (fault : TermFault). fault) (checked_terms wants book rows)) (term_rows bytes) after e in
    let m = mapped_ok (book_with book) (λ (fault : TermFault). fault) (checked_terms wants book s.0) after s.2 in
    ap (λ (b : BookData). b.suppliers) m.2

stated_facts : (read : OffersRead) (at : ℕ) (bytes : Bytes) (book : BookData) → IsReadBook read → scenario_stated read at bytes ≡ Ok book → IsScenarioBook read book
stated_facts read at bytes book facts e =
    let wants : Wanted = record { names = read.bill.names; goods = read.needs.goods } in
    let t = outcome_ok (λ (fault : TermFault). ScenarioTerms at fault) (terms_in wants read.book bytes) book e in
    record { needs = book_keeps wants read.book bytes book t ∙ facts.needs; suppliers = suppliers_stay wants read.book bytes book t }

pub scenario_facts : (a : Bool) (w : World) (read : OffersRead) (at : ℕ) (terms : Option Name) (book : BookData) → IsReadBook read → ScenarioTermsGive a w read at terms (Ok book)
    → IsScenarioBook read book
scenario_facts a w read at None book facts e = subst (λ (b : BookData). IsScenarioBook read b) (sym (one_value book read.book e)) (record { needs = facts.needs; suppliers = refl })
scenario_facts a w read at (Some name) book facts g =
    stated_facts read at g.bytes book facts (sized_ok (nat_lt FILE_MAX (length g.bytes)) _ (scenario_stated read at g.bytes) book g.outcome_is)

-- what a fault of its job names is there
pub scenario_fault_named : (read : OffersRead) (book : BookData) → IsReadBook read → IsBook book → IsScenarioBook read book → (fault : JobFault) → Refuses book.parts fault
    → IsJobFaultNamed read.bill.names read.needs.goods read.book.suppliers fault
scenario_fault_named read book facts is_book scenario fault refuses =
    subst (λ (suppliers : List Bytes). IsJobFaultNamed read.bill.names read.needs.goods suppliers fault) scenario.suppliers
    (job_fault_named (record { bill = read.bill; needs = read.needs; book = book }) (record { named = facts.named; needs = scenario.needs; counted = facts.counted }) is_book fault refuses)

job_alone : (read : OffersRead) (at : ℕ) (book : BookData) → IsWellFormed book.parts → (this other : Outcome Job) → ScenarioJobGives read at book this → ScenarioJobGives read at book other
    → other ≡ this
job_alone read at book formed (Ok a) (Ok b) g h = ap (λ (job : Job). Ok job) (job_one book.parts b a formed h.1 g.1)
job_alone read at book formed (Ok a) (Err told) g h = absurd (passes_or_refuses book.parts h.0 g.0 h.2)
job_alone read at book formed (Err told) (Ok b) g h = absurd (passes_or_refuses book.parts g.0 h.0 g.2)
job_alone read at book formed (Err told) (Err other) g h =
    ap (λ (line : FaultLine). Err line) (h.1 ∙ ap (λ (fault : JobFault). told_by_offers read (ScenarioJob at fault)) (one_refusal book.parts h.0 g.0 h.2 g.2) ∙ sym g.1)

pub one_scenario_job : (read : OffersRead) (at : ℕ) (book : BookData) → IsWellFormed book.parts → (outcome : Outcome Job) → ScenarioJobGives read at book outcome
    → IsOnly (Unit {0}) (ScenarioJobGives read at book) outcome
one_scenario_job read at book formed outcome gives = record { states = gives; alone = λ known other g. job_alone read at book formed outcome other gives g }
