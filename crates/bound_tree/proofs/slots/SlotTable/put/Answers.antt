use Rattle.std.proofs.Common.{◌+◌, ◌%◌, refl, ap, List, Option, Some}
use Rattle.std.proofs.lemmas.List.{map-set}
use Rattle.bound_tree.specs.Prices.{Prices}
use Rattle.bound_tree.specs.Shared.{next_slot, with_next}
use Rattle.bound_tree.specs.SlotTree.{with_row}
use Rattle.bound_tree.specs.SlotTable.{kept_row, given_of}
use Rattle.bound_tree.proofs.slots.SlotTable.put.Goals as goal

pub returns-clause-slot : goal.returns-clause-slot
unfolding next_slot given_of
returns-clause-slot c = refl

pub returns-clause-given : goal.returns-clause-given
unfolding next_slot with_next with_row given_of
returns-clause-given c =
    ap (λ (slots : List (Option Prices)). record { slots = slots; count = c.args.self.now.count + 1 })
    (map-set (kept_row c.args.job.now) c.args.self.now.slots.items (c.args.self.now.count % 64) (Some (record { row = c.args.row; area = c.args.area.now })))
