use Rattle.bom_explode.specs.Structure.{structure_of}
use Rattle.bom_explode.specs.Ways.{along}
use Rattle.bom_explode.specs.Search.{Searches, IsGrown, steps_left}
use Rattle.bom_explode.proofs.search.Search.run.Given as goal

abbrev pub invariant-loop-n : goal.invariant-loop-n
invariant-loop-n l = record {
  searches : Searches (along l.way (structure_of l.bill)) l.self;
  grown : IsGrown (along l.way (structure_of l.bill)) l.fn.self.mark.items l.root l.mark l.self.mark.items l.self.path.items;
}

abbrev pub decreases-loop-n : goal.decreases-loop-n
decreases-loop-n l = steps_left l.self
