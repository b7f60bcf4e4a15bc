use Rattle.std.proofs.Common.{arith, ◌≡◌, length, refl}
use Rattle.std.proofs.lemmas.List.{ext_get_or}
use Rattle.tqd_instance.specs.Offer.{no_segment}
use Rattle.tqd_instance.proofs.supplier.Segments.same.Goals as goal

pub returns : goal.returns
returns c =
    let size : length c.args.self.now ≡ length c.args.other.now = grind arith in
    (λ _. ext_get_or no_segment c.args.self.now c.args.other.now size (λ k below. c.loop-at.invariant k (omega arith)), λ _. refl)
