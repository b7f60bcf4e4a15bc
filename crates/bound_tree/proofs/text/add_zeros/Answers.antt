use Rattle.std.proofs.Common.{◌∙◌, ap, sym, ◌++◌, ◌∷◌, [], append_assoc}
use Rattle.tqd_base.specs.World.{Bytes}
use Rattle.bound_tree.proofs.Zeros.{zeros_text, zeros_more}
use Rattle.bound_tree.proofs.text.add_zeros.Goals as goal

pub loop-place-preserved : goal.loop-place-preserved
loop-place-preserved c = record {
  written = c.in_ok-add_field.ensures
      ∙ (ap (λ (t : Bytes). t ++ 32 ∷ 48 ∷ []) c.loop-place.invariant.written
      ∙ (append_assoc c.args.text.now.items (zeros_text c.loop-place._place) (32 ∷ 48 ∷ []) ∙ ap (λ (t : Bytes). c.args.text.now.items ++ t) (sym (zeros_more c.loop-place._place))));
}
