use Rattle.std.proofs.Common.{List, sym, subst}
use Rattle.requote.specs.declared.graft.DueNode.{DueNode}
use Rattle.requote.specs.Reading.{AreOpen}
use Rattle.requote.proofs.OpenNodes.{open_none}
use Rattle.requote.proofs.graft.Grafter.take_root.Goals as goal

pub returns-clause-at : goal.returns-clause-at
returns-clause-at c = record {
  taken = c.in-Got.ensures.taken;
  open_ones = subst (λ (due : List DueNode). AreOpen c.take.new.self.nodes due) (sym c.requires.none) (open_none c.take.new.self.nodes);
}
