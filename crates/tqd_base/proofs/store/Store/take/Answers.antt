use Rattle.std.proofs.Common.{◌≡◌, Some, arith}
use Rattle.std.specs.Prelude.{slice_get}
use Rattle.tqd_base.proofs.StoreLemmas.{within_slots, get_here, take_reads, take_moves, take_world, name_set}
use Rattle.tqd_base.proofs.Whole.{some_slot}
use Rattle.tqd_base.proofs.store.Store.take.Goals as goal

pub index_mut-requires : goal.index_mut-requires
index_mut-requires c = omega (arith, within_slots c.args.self.now.files.items c.args.self.now.output.items c.args.self.now.slots.items c.args.slot (some_slot _ c.requires.reads), c.args.self.now.slots.ok.0)

pub take-requires-clause-reads : goal.take-requires-clause-reads
take-requires-clause-reads c =
    let lt = within_slots c.args.self.now.files.items c.args.self.now.output.items c.args.self.now.slots.items c.args.slot (some_slot _ c.requires.reads) in
    let here : slice_get c.args.self.now.slots.items c.args.slot ≡ Some c.index_mut.result.now = get_here c.args.self.now.slots.items c.args.slot c.index_mut.result.now lt c.index_mut.ensures.value in
    take_reads c.args.self.now.files.items c.args.self.now.output.items c.args.self.now.slots.items c.args.slot c.index_mut.result.now here c.requires.reads

pub returns-clause-moved : goal.returns-clause-moved
returns-clause-moved c =
    let lt = within_slots c.args.self.now.files.items c.args.self.now.output.items c.args.self.now.slots.items c.args.slot (some_slot _ c.requires.reads) in
    let here : slice_get c.args.self.now.slots.items c.args.slot ≡ Some c.index_mut.result.now = get_here c.args.self.now.slots.items c.args.slot c.index_mut.result.now lt c.index_mut.ensures.value in
    take_moves c.args.self.now.files.items c.args.self.now.output.items c.args.self.now.slots.items c.args.slot c.index_mut.result.now c.take.new.buffer c.take.result here c.take.ensures.moved

pub returns-clause-world : goal.returns-clause-world
returns-clause-world c =
    let lt = within_slots c.args.self.now.files.items c.args.self.now.output.items c.args.self.now.slots.items c.args.slot (some_slot _ c.requires.reads) in
    let here : slice_get c.args.self.now.slots.items c.args.slot ≡ Some c.index_mut.result.now = get_here c.args.self.now.slots.items c.args.slot c.index_mut.result.now lt c.index_mut.ensures.value in
    take_world c.args.self.now.files.items c.args.self.now.output.items c.args.self.now.slots.items c.args.slot c.index_mut.result.now c.take.new.self c.take.result lt here c.take.ensures.after

pub returns-clause-failed : goal.returns-clause-failed
returns-clause-failed c =
    let lt = within_slots c.args.self.now.files.items c.args.self.now.output.items c.args.self.now.slots.items c.args.slot (some_slot _ c.requires.reads) in
    let here : slice_get c.args.self.now.slots.items c.args.slot ≡ Some c.index_mut.result.now = get_here c.args.self.now.slots.items c.args.slot c.index_mut.result.now lt c.index_mut.ensures.value in
    name_set c.args.self.now.slots.items c.args.slot c.index_mut.result.now c.take.new.self c.args.self.now.failed here c.take.ensures.named
