use Rattle.std.proofs.Common.{◌≡◌, ℕ, ◌<◌, ◌≤◌}
use Rattle.tqd_base.specs.declared.limits.TheConstants.{QTY_MAX}
use Rattle.bom_explode.specs.Structure.{structure_of}
use Rattle.bom_explode.specs.Solution.{need_of}
use Rattle.bom_explode.proofs.amounts.least_above.Given as goal

abbrev pub invariant-loop-n : goal.invariant-loop-n
invariant-loop-n l = record {
  count : l.n-end ≡ (structure_of l.bill).names;
  counted : (m : ℕ) → m < l.n → need_of (structure_of l.bill) m ≤ QTY_MAX;
}
