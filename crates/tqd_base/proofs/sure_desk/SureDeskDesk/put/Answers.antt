use Rattle.std.proofs.Common.{refl}
use Rattle.tqd_base.specs.declared.desk.DeskStop.TheVariants.{Memory as NoMemory}
use Rattle.tqd_base.specs.SureState.{sure_state}
use Rattle.tqd_base.specs.Calls.{PutGives}
use Rattle.tqd_base.proofs.DeskLemmas.{at_stop, same_faults, writes_some, puts_nothing}
use Rattle.tqd_base.proofs.sure_desk.SureDeskDesk.put.Goals as goal

pub put-requires : goal.put-requires
put-requires c = writes_some _ c.requires

pub returns-in_err-put-clause-gives : goal.returns-in_err-put-clause-gives
returns-in_err-put-clause-gives c =
    let old = sure_state c.args.self.now in
    let new = sure_state (record c.args.self.now { store = c.put.new.self }) in
    at_stop (PutGives old new c.args.slot c.args.piece.now) _ NoMemory c.from_residual.ensures.1
    (puts_nothing old new c.args.slot c.args.piece.now c.in_err-put.ensures.stays refl (same_faults (sure_state c.args.self.now).faults))

pub returns-clause-gives : goal.returns-clause-gives
returns-clause-gives c = record { world = c.in_ok-put.ensures.put; kept = refl; never_fall = (same_faults (sure_state c.args.self.now).faults) }
