use Rattle.std.proofs.Common.{arith, ◌∙◌, sym}
use Rattle.bound_tree.specs.SlotTable.{given_of}
use Rattle.bound_tree.proofs.SameRows.{first_slot, no_slot}
use Rattle.bound_tree.proofs.SlotTables.{given_slots}
use Rattle.bound_tree.proofs.slots.SlotTable.slot_with.Goals as goal

pub returns-then-has_row : goal.returns-then-has_row
returns-then-has_row c =
    first_slot c.args.job.now c.args.area.now c.args.row.now (given_of c.args.job.now c.args.self.now).slots c.loop-slot.slot
    (omega (arith, given_slots c.args.job.now c.args.self.now, c.loop-slot-test.true, c.len-slot-end.ensures)) c.loop-slot.invariant.none (sym c.has_row.ensures ∙ c.if-has_row.true)

pub returns : goal.returns
returns c =
    no_slot c.args.job.now c.args.area.now c.args.row.now (given_of c.args.job.now c.args.self.now).slots c.loop-slot.slot
    (omega (arith, given_slots c.args.job.now c.args.self.now, c.loop-slot-test.false, c.len-slot-end.ensures)) c.loop-slot.invariant.none
