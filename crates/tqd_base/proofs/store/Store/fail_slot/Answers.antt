use Rattle.std.proofs.Common.{arith}
use Rattle.tqd_base.proofs.StoreLemmas.{within_slots, name_open}
use Rattle.tqd_base.proofs.store.Store.fail_slot.Goals as goal

pub invariant_of-self-clause-known : goal.invariant_of-self-clause-known
invariant_of-self-clause-known c = omega (arith, within_slots c.args.self.now.files.items c.args.self.now.output.items c.args.self.now.slots.items c.args.slot c.requires, c.args.self.now.slots.ok.0)

pub returns-clause-failed : goal.returns-clause-failed
returns-clause-failed c = name_open c.args.self.now.files.items c.args.self.now.output.items c.args.self.now.slots.items c.args.slot c.requires
