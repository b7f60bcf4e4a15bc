use Rattle.std.proofs.Common.{◌∙◌, Some, sym, ap}
use Rattle.tqd_base.proofs.StoreLemmas.{output_world}
use Rattle.tqd_base.specs.World.{Bytes}
use Rattle.tqd_base.proofs.store.Store.output.Goals as goal

pub returns : goal.returns
returns c =
    output_world c.args.self.now.files.items c.args.self.now.output.items c.args.self.now.slots.items ∙ ap (λ (b : Bytes). Some b) (sym c.as_slice.ensures.value)
