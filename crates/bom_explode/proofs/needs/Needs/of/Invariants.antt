use Rattle.std.proofs.Common.{◌≡◌}
use Rattle.bom_explode.specs.Structure.{structure_of}
use Rattle.bom_explode.specs.Solution.{need_of}
use Rattle.bom_explode.proofs.Collecting.{AreGoodsBelow}
use Rattle.bom_explode.proofs.needs.Needs.of.Given as goal

abbrev pub invariant-loop-n : goal.invariant-loop-n
invariant-loop-n l = record {
  count : l.n-end ≡ (structure_of l.bill).names;
  so_far : AreGoodsBelow (structure_of l.bill) (need_of (structure_of l.bill)) l.n l.goods.items l.units.items;
}
