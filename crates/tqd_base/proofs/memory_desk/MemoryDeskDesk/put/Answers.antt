use Rattle.tqd_base.specs.declared.desk.DeskStop.TheVariants.{Memory as NoMemory}
use Rattle.tqd_base.specs.MemoryState.{memory_state}
use Rattle.tqd_base.specs.Calls.{PutGives}
use Rattle.tqd_base.proofs.DeskLemmas.{at_stop, same_faults, writes_some, puts_nothing}
use Rattle.tqd_base.proofs.memory_desk.MemoryDeskDesk.put.Goals as goal

pub put-requires : goal.put-requires
put-requires c = writes_some _ c.requires

pub put-requires-2 : goal.put-requires-2
put-requires-2 c = writes_some _ c.requires

pub returns-in_err-put-clause-gives : goal.returns-in_err-put-clause-gives
returns-in_err-put-clause-gives c =
    let old = memory_state c.args.self.now in
    let new = memory_state (record c.args.self.now { store = c.put.new.self; plan = c.is_due.new.self }) in
    at_stop (PutGives old new c.args.slot c.args.piece.now) _ NoMemory c.from_residual.ensures.1
    (puts_nothing old new c.args.slot c.args.piece.now c.in_err-put.ensures.stays c.put.ensures.failed (same_faults (memory_state c.args.self.now).faults))

pub returns-in_err-put-2-clause-gives : goal.returns-in_err-put-2-clause-gives
returns-in_err-put-2-clause-gives c =
    let old = memory_state c.args.self.now in
    let new = memory_state (record c.args.self.now { store = c.put-2.new.self; plan = c.is_due.new.self }) in
    at_stop (PutGives old new c.args.slot c.args.piece.now) _ NoMemory c.from_residual-in_err-put-2.ensures.1
    (puts_nothing old new c.args.slot c.args.piece.now c.in_err-put-2.ensures.stays c.put-2.ensures.failed (same_faults (memory_state c.args.self.now).faults))
