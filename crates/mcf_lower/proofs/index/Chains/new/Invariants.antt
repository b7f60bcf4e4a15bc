use Rattle.mcf_lower.specs.Net.{arc_of}
use Rattle.mcf_lower.specs.Edges.{IsChain}
use Rattle.mcf_lower.proofs.index.Chains.new.Given as goal

abbrev pub invariant-loop-a : goal.invariant-loop-a
invariant-loop-a l = IsChain l.net.nodes (λ a. (arc_of l.net a).head) l.a l.first.items l.next.items
