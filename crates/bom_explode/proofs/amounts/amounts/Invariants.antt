use Rattle.bom_explode.specs.Structure.{structure_of, IsStructure}
use Rattle.bom_explode.proofs.Amounting.{AreAmountsFrom}
use Rattle.bom_explode.proofs.amounts.amounts.Given as goal

abbrev pub invariant-loop-i : goal.invariant-loop-i
invariant-loop-i l = record {
  kept : IsStructure (structure_of l.bill);
  made : AreAmountsFrom (structure_of l.bill) l.order l.i l.amounts.items;
}
