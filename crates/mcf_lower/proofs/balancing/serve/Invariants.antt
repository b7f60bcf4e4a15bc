use Rattle.std.proofs.Common.{get_or}
use Rattle.mcf_lower.specs.Tree.{HasSizes}
use Rattle.mcf_lower.specs.Pseudoflow.{IsPseudoflow, IsLess}
use Rattle.mcf_lower.proofs.balancing.serve.Given as goal

abbrev pub invariant-loop-flow : goal.invariant-loop-flow
invariant-loop-flow l = record {
  pseudoflow : IsPseudoflow l.net l.flow;
  sizes : HasSizes l.net.nodes l.labels;
  less : IsLess l.initial.flow.demand.items l.flow.demand.items;
}

abbrev pub decreases-loop-flow : goal.decreases-loop-flow
decreases-loop-flow l = get_or l.flow.demand.items l.root 0
