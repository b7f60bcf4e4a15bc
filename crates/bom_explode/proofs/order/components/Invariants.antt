use Rattle.bom_explode.specs.Structure.{structure_of, IsStructure}
use Rattle.bom_explode.specs.Ways.{along}
use Rattle.bom_explode.specs.Search.{IsIdle}
use Rattle.bom_explode.specs.Order.{AreGathered}
use Rattle.bom_explode.specs.declared.structure.Way.TheVariants.{Up}
use Rattle.bom_explode.proofs.order.components.Given as goal

abbrev pub invariant-loop-i : goal.invariant-loop-i
invariant-loop-i l = record {
  kept : IsStructure (structure_of l.bill);
  idle : IsIdle (along Up (structure_of l.bill)) l.search;
  gathered : AreGathered (structure_of l.bill) l.order l.i l.search.mark.items;
}
