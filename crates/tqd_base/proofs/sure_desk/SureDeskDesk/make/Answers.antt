use Rattle.std.proofs.Common.{refl}
use Rattle.tqd_base.specs.declared.desk.DeskStop.TheVariants.{Memory as NoMemory}
use Rattle.tqd_base.specs.SureState.{sure_state}
use Rattle.tqd_base.specs.Calls.{MakeGives}
use Rattle.tqd_base.proofs.DeskLemmas.{at_stop, same_faults}
use Rattle.tqd_base.proofs.sure_desk.SureDeskDesk.make.Goals as goal

pub returns-in_err-make-clause-gives : goal.returns-in_err-make-clause-gives
returns-in_err-make-clause-gives c =
    let old = sure_state c.args.self.now in
    let new = sure_state (record c.args.self.now { store = c.make.new.self }) in
    at_stop (MakeGives old new c.args.name.now) _ NoMemory c.from_residual.ensures.1
    (record { world = c.in_err-make.ensures.stays; kept = refl; never_fall = (same_faults (sure_state c.args.self.now).faults) })

pub returns-clause-gives : goal.returns-clause-gives
returns-clause-gives c = record {
  fresh = c.in_ok-make.ensures.made.fresh;
  world = c.in_ok-make.ensures.made.after;
  kept = refl;
  never_fall = (same_faults (sure_state c.args.self.now).faults);
}
