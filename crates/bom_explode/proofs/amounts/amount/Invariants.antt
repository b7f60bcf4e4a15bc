use Rattle.std.proofs.Common.{◌≡◌, ◌-◌, ◌<◌, ◌≤◌}
use Rattle.bom_explode.specs.declared.amounts.TheConstants.{TOO_MANY}
use Rattle.bom_explode.specs.Structure.{structure_of, IsStructure}
use Rattle.bom_explode.specs.Solution.{IsTotal}
use Rattle.bom_explode.proofs.amounts.amount.Given as goal

abbrev pub invariant-loop-cursor : goal.invariant-loop-cursor
invariant-loop-cursor l = record {
  kept : IsStructure (structure_of l.bill);
  low : l.cursor ≤ (structure_of l.bill).lines;
  into : 0 < l.cursor → (structure_of l.bill).part (l.cursor - 1) ≡ l.n;
  small : l.total ≤ TOO_MANY;
  so_far : IsTotal (structure_of l.bill) l.n l.cursor l.total;
}

abbrev pub decreases-loop-cursor : goal.decreases-loop-cursor
decreases-loop-cursor l = l.cursor
