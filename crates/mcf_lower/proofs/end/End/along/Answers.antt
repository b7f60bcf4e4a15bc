use Rattle.std.proofs.Common.{subst, sym, arith}
use Rattle.mcf_lower.specs.declared.edge.Edge.{Edge}
use Rattle.mcf_lower.specs.Edges.{IsEdge}
use Rattle.mcf_lower.proofs.Edges.{IsEdge-of}
use Rattle.mcf_lower.proofs.Offers.{edge-coming}
use Rattle.mcf_lower.proofs.end.End.along.Goals as goal

pub returns-clause-is : goal.returns-clause-is
returns-clause-is c = edge-coming c.args._net.now c.args.v c.args.self.now c.requires.coming

pub returns-clause-ends : goal.returns-clause-ends
returns-clause-ends c =
    subst (λ (x : Edge). IsEdge c.args._net.now.nodes x) (sym (edge-coming c.args._net.now c.args.v c.args.self.now c.requires.coming))
    (IsEdge-of c.args._net.now c.requires.network c.args.self.now.arc (omega (arith, c.requires.coming.inside)))
