use Rattle.std.proofs.Common.{◌≡◌, ℕ, ◌<◌}
use Rattle.bom_explode.specs.Structure.{structure_of}
use Rattle.bom_explode.specs.Ways.{along}
use Rattle.bom_explode.specs.Search.{IsIdle, IsMarked}
use Rattle.bom_explode.specs.declared.structure.Way.TheVariants.{Down}
use Rattle.bom_explode.proofs.order.leaving_order.Given as goal

abbrev pub invariant-loop-root : goal.invariant-loop-root
invariant-loop-root l = record {
  count : l.root-end ≡ (structure_of l.bill).names;
  idle : IsIdle (along Down (structure_of l.bill)) l.search;
  found : (n : ℕ) → n < l.root → IsMarked l.search.mark.items n;
}
