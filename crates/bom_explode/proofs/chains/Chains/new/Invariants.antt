use Rattle.std.proofs.Common.{◌≡◌}
use Rattle.bom_explode.specs.Structure.{structure_of, IsStructure}
use Rattle.bom_explode.specs.Ways.{along}
use Rattle.bom_explode.specs.Chains.{AreChainsTo}
use Rattle.bom_explode.proofs.chains.Chains.new.Given as goal

abbrev pub invariant-loop-l : goal.invariant-loop-l
invariant-loop-l l = record {
  kept : IsStructure (structure_of l.bill);
  lines : l.count ≡ (structure_of l.bill).lines;
  made : AreChainsTo (along l.way (structure_of l.bill)) l.l l.first.items l.next.items;
}
