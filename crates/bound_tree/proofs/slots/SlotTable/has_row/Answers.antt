use Rattle.std.proofs.Common.{arith, ◌∙◌, ap, sym}
use Rattle.bound_tree.specs.Shared.{has_row}
use Rattle.bound_tree.specs.SlotTable.{kept_row, given_of}
use Rattle.bound_tree.proofs.SameRows.{row_at}
use Rattle.bound_tree.proofs.slots.SlotTable.has_row.Goals as goal

pub returns-in-Some : goal.returns-in-Some
unfolding given_of
returns-in-Some c =
    c.is.ensures
    ∙ ap (has_row c.args.job.now c.args.area.now c.args.row.now)
    (sym (row_at c.args.job.now c.args.self.now.slots.items c.args.slot c.index.result.now (omega (arith, c.requires.table.slots, c.requires.slot)) c.index.ensures ∙ ap (kept_row c.args.job.now) c.in-Some.is))

pub returns-in-None : goal.returns-in-None
unfolding given_of
returns-in-None c =
    ap (has_row c.args.job.now c.args.area.now c.args.row.now)
    (sym (row_at c.args.job.now c.args.self.now.slots.items c.args.slot c.index.result.now (omega (arith, c.requires.table.slots, c.requires.slot)) c.index.ensures ∙ ap (kept_row c.args.job.now) c.in-None.is))
