use Rattle.bound_tree.proofs.Cuts.{words_cut}
use Rattle.bound_tree.proofs.fields.Fields.of.Goals as goal

pub returns : goal.returns
returns c = words_cut c.args.line.now _ _ c.cut_at.ensures
