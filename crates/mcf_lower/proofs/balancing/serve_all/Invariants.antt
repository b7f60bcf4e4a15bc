use Rattle.std.proofs.Common.{◌≡◌, ℕ, ◌<◌, get_or}
use Rattle.mcf_lower.specs.Tree.{HasSizes}
use Rattle.mcf_lower.specs.Pseudoflow.{IsPseudoflow}
use Rattle.mcf_lower.proofs.balancing.serve_all.Given as goal

abbrev pub invariant-loop-root : goal.invariant-loop-root
invariant-loop-root l = record {
  pseudoflow : IsPseudoflow l.net l.flow;
  sizes : HasSizes l.net.nodes l.labels;
  served : (v : ℕ) → v < l.root → get_or l.flow.demand.items v 0 ≡ 0;
}
