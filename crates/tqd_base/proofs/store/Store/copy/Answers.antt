use Rattle.std.proofs.Common.{◌∙◌, Some, sym, ap}
use Rattle.tqd_base.proofs.StoreLemmas.{bytes_there, bytes_absent}
use Rattle.tqd_base.specs.World.{Bytes}
use Rattle.tqd_base.proofs.store.Store.copy.Goals as goal

pub returns-in_ok-from_slice-in-Some : goal.returns-in_ok-from_slice-in-Some
returns-in_ok-from_slice-in-Some c =
    bytes_there c.args.self.now.files.items c.args.self.now.output.items c.args.self.now.slots.items c.args.name.now _ (sym c.in-Some.ensures) ∙ ap (λ (b : Bytes). Some b) (sym c.in_ok-from_slice-in-Some.ensures.items)

pub returns-in-None : goal.returns-in-None
returns-in-None c = bytes_absent c.args.self.now.files.items c.args.self.now.output.items c.args.self.now.slots.items c.args.name.now (sym c.in-None.ensures) ∙ ap (λ (b : Bytes). Some b) (sym c.new.ensures.items)
