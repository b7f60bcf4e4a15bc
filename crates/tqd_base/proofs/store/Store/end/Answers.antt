use Rattle.std.proofs.Common.{◌≡◌, Some, refl, arith}
use Rattle.std.specs.Prelude.{slice_get}
use Rattle.tqd_base.proofs.StoreLemmas.{within_slots, get_here, end_world, name_set}
use Rattle.tqd_base.proofs.store.Store.end.Goals as goal

pub index_mut-requires : goal.index_mut-requires
index_mut-requires c = omega (arith, within_slots c.args.self.now.files.items c.args.self.now.output.items c.args.self.now.slots.items c.args.slot c.requires, c.args.self.now.slots.ok.0)

pub returns-clause-world : goal.returns-clause-world
returns-clause-world c = end_world c.args.self.now.files.items c.args.self.now.output.items c.args.self.now.slots.items c.args.slot _ (within_slots c.args.self.now.files.items c.args.self.now.output.items c.args.self.now.slots.items c.args.slot c.requires) refl

pub returns-clause-failed : goal.returns-clause-failed
returns-clause-failed c =
    let lt = within_slots c.args.self.now.files.items c.args.self.now.output.items c.args.self.now.slots.items c.args.slot c.requires in
    let here : slice_get c.args.self.now.slots.items c.args.slot ≡ Some c.index_mut.result.now = get_here c.args.self.now.slots.items c.args.slot c.index_mut.result.now lt c.index_mut.ensures.value in
    name_set c.args.self.now.slots.items c.args.slot c.index_mut.result.now _ c.args.self.now.failed here refl
