-- A bill has one explosion.
use Rattle.std.proofs.Common.{List, [], refl, subst}
use Rattle.std.specs.Prelude.{Ok, Err}
use Rattle.tqd_base.specs.World.{Bytes}
use Rattle.plan_report.specs.FaultText.{fault_text}
use Rattle.plan_report.specs.declared.fault.FileFault.TheVariants.{Explode as InExplosion}
use Rattle.tqd_top.specs.JobOf.{told_by_bill}
use Rattle.tqd_top.specs.Inner.Steps.{StopsAt}
use Rattle.tqd_top.proofs.Readings.{answers_stop}
use Rattle.tqd_top.proofs.OneOutcome.{explode_named, one_explosion}
use Rattle.tqd_top.proofs.input.needs_of.Goals as goal

pub returns-in-Ok : goal.returns-in-Ok
returns-in-Ok c = one_explosion c.args.bill c.names-names.ensures.kept (Ok _) (refl, c.in-Ok.ensures)

pub bad_parts-requires : goal.bad_parts-requires
bad_parts-requires c = rw c.names-names.ensures.value (explode_named c.args.bill c.in-Err-Refused.fault (rw c.in-Err-Refused.field-0-is at c.in-Err-Refused.ensures))

pub returns-in-Err-Refused : goal.returns-in-Err-Refused
returns-in-Err-Refused c =
    let fault = c.in-Err-Refused.fault in
    let told = told_by_bill c.args.bill (InExplosion fault) in
    answers_stop _ told _ (one_explosion c.args.bill c.names-names.ensures.kept (Err told) (fault, refl, rw c.in-Err-Refused.field-0-is at c.in-Err-Refused.ensures))
    (subst (λ (names : List Bytes). StopsAt (record { fault = InExplosion fault; text = fault_text names [] [] (InExplosion fault) }) c.bad_parts.result) c.names-names.ensures.value c.bad_parts.ensures)
