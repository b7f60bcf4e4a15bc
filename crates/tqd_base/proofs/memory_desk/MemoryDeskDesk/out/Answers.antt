use Rattle.tqd_base.specs.declared.desk.DeskStop.TheVariants.{Memory as NoMemory}
use Rattle.tqd_base.specs.MemoryState.{memory_state}
use Rattle.tqd_base.specs.Calls.{OutGives}
use Rattle.tqd_base.proofs.DeskLemmas.{at_stop, same_faults, prints_nothing}
use Rattle.tqd_base.proofs.memory_desk.MemoryDeskDesk.out.Goals as goal

pub returns-in_err-out-clause-gives : goal.returns-in_err-out-clause-gives
returns-in_err-out-clause-gives c =
    let old = memory_state c.args.self.now in
    let new = memory_state (record c.args.self.now { store = c.out.new.self; plan = c.is_due.new.self }) in
    at_stop (OutGives old new c.args.piece.now) _ NoMemory c.from_residual.ensures.1
    (prints_nothing old new c.args.piece.now c.in_err-out.ensures.stays c.out.ensures.failed (same_faults (memory_state c.args.self.now).faults))

pub returns-in_err-out-2-clause-gives : goal.returns-in_err-out-2-clause-gives
returns-in_err-out-2-clause-gives c =
    let old = memory_state c.args.self.now in
    let new = memory_state (record c.args.self.now { store = c.out-2.new.self; plan = c.is_due.new.self }) in
    at_stop (OutGives old new c.args.piece.now) _ NoMemory c.from_residual-in_err-out-2.ensures.1
    (prints_nothing old new c.args.piece.now c.in_err-out-2.ensures.stays c.out-2.ensures.failed (same_faults (memory_state c.args.self.now).faults))
