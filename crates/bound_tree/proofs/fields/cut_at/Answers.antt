use Rattle.std.proofs.Common.{refl, sym}
use Rattle.bound_tree.proofs.Cuts.{cut_nowhere, cut_somewhere}
use Rattle.bound_tree.proofs.fields.cut_at.Goals as goal

pub returns-in-None : goal.returns-in-None
returns-in-None c = cut_nowhere c.args.byte c.args.text.now (sym c.in-None.ensures.value)

pub returns-in-Some : goal.returns-in-Some
returns-in-Some c = cut_somewhere c.args.byte c.args.text.now c.in-Some.at _ _ (sym c.in-Some.ensures.value) refl refl
