use Rattle.std.proofs.Common.{◌∙◌, ap}
use Rattle.tqd_base.proofs.StoreLemmas.{print_world}
use Rattle.tqd_base.specs.World.{Bytes}
use Rattle.tqd_base.specs.Kept.{world_at}
use Rattle.tqd_base.proofs.store.Store.out.Goals as goal

pub returns-clause-out : goal.returns-clause-out
returns-clause-out c =
    ap (λ (o : Bytes). world_at c.args.self.now.files.items o c.args.self.now.slots.items) c.in_ok-extend_from_slice.ensures.items
    ∙ print_world c.args.self.now.files.items c.args.self.now.output.items c.args.self.now.slots.items c.args.piece.now
