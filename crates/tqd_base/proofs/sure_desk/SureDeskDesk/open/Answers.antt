use Rattle.std.proofs.Common.{refl, true}
use Rattle.tqd_base.specs.declared.desk.DeskStop.TheVariants.{Memory as NoMemory}
use Rattle.tqd_base.specs.SureState.{sure_state}
use Rattle.tqd_base.specs.Calls.{OpenGives}
use Rattle.tqd_base.proofs.DeskLemmas.{at_stop, same_faults}
use Rattle.tqd_base.proofs.StoreLemmas.{readable_absent}
use Rattle.tqd_base.proofs.sure_desk.SureDeskDesk.open.Goals as goal

pub returns-in_err-open-clause-gives : goal.returns-in_err-open-clause-gives
returns-in_err-open-clause-gives c =
    let old = sure_state c.args.self.now in
    let new = sure_state (record c.args.self.now { store = c.open.new.self }) in
    at_stop (OpenGives true old new c.args.name.now) _ NoMemory c.from_residual.ensures.1
    (record { world = c.in_err-open.ensures.stays; kept = refl; never_fall = (same_faults (sure_state c.args.self.now).faults) })

pub returns-clause-gives : goal.returns-clause-gives
returns-clause-gives c = record {
  fresh = c.in_ok-open.ensures.opened.fresh;
  readable = readable_absent c.args.self.now.store.files.items c.args.self.now.store.output.items c.args.self.now.store.slots.items c.args.name.now;
  world = c.in_ok-open.ensures.opened.after;
  kept = refl;
  never_fall = (same_faults (sure_state c.args.self.now).faults);
}
