use Rattle.std.proofs.Common.{◌≡◌, ◌∙◌, Some, arith}
use Rattle.std.specs.Prelude.{slice_get}
use Rattle.tqd_base.proofs.StoreLemmas.{within_slots, get_here, writing_here}
use Rattle.tqd_base.proofs.store.Store.is_writing.Goals as goal

pub index-requires : goal.index-requires
index-requires c = omega (arith, within_slots c.args.self.now.files.items c.args.self.now.output.items c.args.self.now.slots.items c.args.slot c.requires, c.args.self.now.slots.ok.0)

pub returns : goal.returns
returns c =
    let here : slice_get c.args.self.now.slots.items c.args.slot ≡ Some c.index.result.now =
    get_here c.args.self.now.slots.items c.args.slot c.index.result.now (within_slots c.args.self.now.files.items c.args.self.now.output.items c.args.self.now.slots.items c.args.slot c.requires) c.index.ensures in
    c.is_writing.ensures ∙ writing_here c.args.self.now.files.items c.args.self.now.output.items c.args.self.now.slots.items c.args.slot c.index.result.now here
