use Rattle.std.proofs.Common.{◌+◌, length, subst, sym, arith}
use Rattle.mcf_lower.specs.declared.edge.Edge.{Edge}
use Rattle.mcf_lower.specs.Edges.{IsEdge}
use Rattle.mcf_lower.proofs.Edges.{IsEdge-of}
use Rattle.mcf_lower.proofs.Offers.{edge-leaving}
use Rattle.mcf_lower.proofs.end.End.back.Goals as goal

pub returns-clause-is : goal.returns-clause-is
returns-clause-is c = edge-leaving c.args._net.now c.args.v c.args.self.now c.requires.leaving

pub returns-clause-ends : goal.returns-clause-ends
returns-clause-ends c =
    subst (λ (x : Edge). IsEdge c.args._net.now.nodes x) (sym (edge-leaving c.args._net.now c.args.v c.args.self.now c.requires.leaving))
    (IsEdge-of c.args._net.now c.requires.network (c.args.self.now.arc + length c.args._net.now.arcs) (omega (arith, c.requires.leaving.inside)))
