use Rattle.std.proofs.Common.{Option, Some, sym, ap, subst}
use Rattle.std.specs.Prelude.{IfOk}
use Rattle.tqd_base.specs.Kept.{world_at}
use Rattle.tqd_base.specs.World.{Bytes, Slot, Reading}
use Rattle.tqd_base.specs.Store.{AddsSlot}
use Rattle.tqd_base.proofs.store.Store.open.Goals as goal

pub returns-clause-opened : goal.returns-clause-opened
returns-clause-opened c =
    let w = (world_at c.args.self.now.files.items c.args.self.now.output.items c.args.self.now.slots.items) in
    subst (λ (s : Option Slot). IfOk c.add_slot.result (λ slot. AddsSlot w (world_at c.add_slot.new.self.files.items c.add_slot.new.self.output.items c.add_slot.new.self.slots.items) slot s)) (ap (λ (l : Option Bytes). Some (Reading c.args.name.now l)) (sym c.in_ok-bytes.ensures)) c.add_slot.ensures.added
