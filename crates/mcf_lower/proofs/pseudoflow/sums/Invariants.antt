use Rattle.mcf_lower.specs.Pseudoflow.{AreSums}
use Rattle.mcf_lower.proofs.pseudoflow.sums.Given as goal

abbrev pub invariant-loop-a : goal.invariant-loop-a
invariant-loop-a l = AreSums l.net l.room l.a l.supply l.demand
