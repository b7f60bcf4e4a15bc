use Rattle.std.proofs.Common.{refl, ◌++◌, ◌∷◌, []}
use Rattle.bound_tree.specs.LineText.{counts_text}
use Rattle.bound_tree.specs.WriteTree.{WriteGives}
use Rattle.bound_tree.specs.declared.write.WriteStop.TheVariants.{Memory}
use Rattle.bound_tree.proofs.Writing.{begin, stops, at_err}
use Rattle.bound_tree.proofs.write.put_counts.Goals as goal

pub returns-in_err-line : goal.returns-in_err-line
returns-in_err-line g c =
    let start = g.D.Desk.state c.args.desk.now in
    at_err (WriteGives start start c.args.slot (counts_text c.args.word c.args.counts.now ++ 10 ∷ [])) _ Memory c.from_residual.ensures.1
    (stops start start c.args.slot [] _ _ refl (begin start c.args.slot [] refl c.requires))
