use Rattle.tqd_base.proofs.DeskLemmas.{told_world}
use Rattle.tqd_base.proofs.sure_desk.SureDesk.file.Goals as goal

pub returns : goal.returns
returns c = told_world c.args.self.now.store.files.items c.args.self.now.store.output.items c.args.self.now.store.slots.items c.args.name.now _ c.file.ensures
