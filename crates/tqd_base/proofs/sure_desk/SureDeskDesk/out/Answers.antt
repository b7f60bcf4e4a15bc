use Rattle.std.proofs.Common.{refl}
use Rattle.tqd_base.specs.declared.desk.DeskStop.TheVariants.{Memory as NoMemory}
use Rattle.tqd_base.specs.SureState.{sure_state}
use Rattle.tqd_base.specs.Calls.{OutGives}
use Rattle.tqd_base.proofs.DeskLemmas.{at_stop, same_faults, prints_nothing}
use Rattle.tqd_base.proofs.sure_desk.SureDeskDesk.out.Goals as goal

pub returns-in_err-out-clause-gives : goal.returns-in_err-out-clause-gives
returns-in_err-out-clause-gives c =
    let old = sure_state c.args.self.now in
    let new = sure_state (record c.args.self.now { store = c.out.new.self }) in
    at_stop (OutGives old new c.args.piece.now) _ NoMemory c.from_residual.ensures.1
    (prints_nothing old new c.args.piece.now c.in_err-out.ensures.stays refl (same_faults (sure_state c.args.self.now).faults))

pub returns-clause-gives : goal.returns-clause-gives
returns-clause-gives c = record { world = c.in_ok-out.ensures.out; kept = refl; never_fall = (same_faults (sure_state c.args.self.now).faults) }
