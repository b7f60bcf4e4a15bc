use Rattle.std.proofs.Common.{sym, false}
use Rattle.tqd_base.proofs.StoreLemmas.{readable_there, readable_absent}
use Rattle.tqd_base.proofs.store.Store.is_absent.Goals as goal

pub returns-in-Some-clause-readable : goal.returns-in-Some-clause-readable
returns-in-Some-clause-readable c = readable_there c.args.self.now.files.items c.args.self.now.output.items c.args.self.now.slots.items false c.args.name.now _ (sym c.in-Some.ensures)

pub returns-in-None-clause-readable : goal.returns-in-None-clause-readable
returns-in-None-clause-readable c = readable_absent c.args.self.now.files.items c.args.self.now.output.items c.args.self.now.slots.items c.args.name.now
