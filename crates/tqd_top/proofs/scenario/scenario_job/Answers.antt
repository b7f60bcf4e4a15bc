-- A book has one job, or one first fault.
use Rattle.std.proofs.Common.{refl, subst}
use Rattle.std.specs.Prelude.{Ok, Err}
use Rattle.tqd_instance.specs.PartsData.{PartsData}
use Rattle.tqd_instance.specs.Built.{IsJobOf, Passes, Refuses}
use Rattle.plan_report.specs.declared.fault.FileFault.TheVariants.{ScenarioJob}
use Rattle.tqd_top.specs.declared.reading.OffersRead.{OffersRead}
use Rattle.tqd_top.specs.Inner.Steps.{StopsAt}
use Rattle.tqd_top.specs.JobOf.{told_by_offers}
use Rattle.tqd_top.proofs.Readings.{answers_stop}
use Rattle.tqd_top.proofs.ScenarioFacts.{one_scenario_job, scenario_fault_named}
use Rattle.tqd_top.proofs.scenario.scenario_job.Goals as goal

pub returns-in-Ok : goal.returns-in-Ok
returns-in-Ok c = one_scenario_job c.args.kept.now c.args.at c.args.book.now c.parts.ensures.kept.formed (Ok _) (
  subst (λ (parts : PartsData). Passes parts) c.parts.ensures.value c.in-Ok.ensures.passes,
  subst (λ (parts : PartsData). IsJobOf parts c.in-Ok.job) c.parts.ensures.value c.in-Ok.ensures.job,
)

pub bad_offers-requires : goal.bad_offers-requires
bad_offers-requires c = rw c.offers.ensures (scenario_fault_named c.args.kept.now c.args.book.now c.requires.facts c.parts.ensures.kept c.requires.book c.in-Err-Refused.fault
    (subst (λ (parts : PartsData). Refuses parts c.in-Err-Refused.fault) c.parts.ensures.value (rw c.in-Err-Refused.field-0-is at c.in-Err-Refused.ensures.refused)))

pub returns-in-Err-Refused : goal.returns-in-Err-Refused
returns-in-Err-Refused c =
    let fault = c.in-Err-Refused.fault in
    let told = told_by_offers c.args.kept.now (ScenarioJob c.args.at fault) in
    answers_stop _ told _ (one_scenario_job c.args.kept.now c.args.at c.args.book.now c.parts.ensures.kept.formed (Err told)
    (fault, refl, subst (λ (parts : PartsData). Refuses parts fault) c.parts.ensures.value (rw c.in-Err-Refused.field-0-is at c.in-Err-Refused.ensures.refused)))
    (subst (λ (read : OffersRead). StopsAt (told_by_offers read (ScenarioJob c.args.at fault)) c.bad_offers.result) c.offers.ensures c.bad_offers.ensures)
