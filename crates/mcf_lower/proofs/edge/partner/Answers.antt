use Rattle.std.proofs.Common.{arith}
use Rattle.mcf_lower.proofs.Edges.{partner_of-along, partner_of-back}
use Rattle.mcf_lower.proofs.edge.partner.Goals as goal

pub returns-then-e-arcs-clause-is : goal.returns-then-e-arcs-clause-is
returns-then-e-arcs-clause-is c =
    rw (partner_of-along c.args.net.now c.args.e (omega arith)) (omega arith)

pub returns-else-e-arcs-clause-is : goal.returns-else-e-arcs-clause-is
returns-else-e-arcs-clause-is c =
    rw (partner_of-back c.args.net.now c.args.e (omega arith)) (omega arith)
