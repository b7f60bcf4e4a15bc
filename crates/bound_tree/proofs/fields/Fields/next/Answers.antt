use Rattle.std.proofs.Common.{sym, ◌∙◌, ap}
use Rattle.bound_tree.specs.Fields.{fields_in}
use Rattle.bound_tree.proofs.Cuts.{words_cut}
use Rattle.bound_tree.proofs.fields.Fields.next.Goals as goal

pub returns : goal.returns
returns c = let v = c.self.view_is in let w = c.in_ok-self.was in sym (ap fields_in (sym c.in_ok-self.was) ∙ c.self.view_is) ∙ words_cut _ _ _ c.cut_at.ensures
