use Rattle.std.proofs.Common.{◌≡◌, ℕ, ◌<◌, ◌≤◌, get_or}
use Rattle.bom_explode.specs.Structure.{structure_of, IsStructure}
use Rattle.bom_explode.specs.Below.{IsBelow}
use Rattle.bom_explode.proofs.circle.least_on_circle.Given as goal

abbrev pub invariant-loop-l : goal.invariant-loop-l
invariant-loop-l l = record {
  kept : IsStructure (structure_of l.bill);
  count : l.count ≡ (structure_of l.bill).names;
  lines : l.l-end ≡ (structure_of l.bill).lines;
  on_circle : l.least < l.count → IsBelow (structure_of l.bill) l.least l.least;
  least : (k : ℕ) → k < l.l → get_or l.component ((structure_of l.bill).assembly k) 0 ≡ get_or l.component ((structure_of l.bill).part k) 0
      → l.least ≤ (structure_of l.bill).assembly k;
}
