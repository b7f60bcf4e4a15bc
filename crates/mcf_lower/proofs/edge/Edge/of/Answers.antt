use Rattle.std.proofs.Common.{rules, arith, ◌-◌}
use Rattle.mcf_lower.proofs.Edges.{edge_of-along, edge_of-back}
use Rattle.mcf_lower.proofs.edge.Edge.of.Goals as goal

pub returns-then-e-arcs-clause-is : goal.returns-then-e-arcs-clause-is
returns-then-e-arcs-clause-is c =
    rw (edge_of-along c.args.net.now c.args.e (omega arith)) (search rules)

pub returns-else-e-arcs-clause-is : goal.returns-else-e-arcs-clause-is
returns-else-e-arcs-clause-is c =
    rw (edge_of-back c.args.net.now c.args.e (omega arith)) (search rules)

pub returns-then-e-arcs-clause-inside : goal.returns-then-e-arcs-clause-inside
returns-then-e-arcs-clause-inside c =
    let a = c.arcs-arcs.ensures.network.each c.args.e (omega arith) in
    record { start = search (rules, a.tail); finish = search (rules, a.head); plus = search (rules, a.price); minus = omega arith }

pub returns-else-e-arcs-clause-inside : goal.returns-else-e-arcs-clause-inside
returns-else-e-arcs-clause-inside c =
    let a = c.arcs-arcs.ensures.network.each (c.args.e - c.arcs-arcs.result) (omega arith) in
    record { start = search (rules, a.head); finish = search (rules, a.tail); plus = omega arith; minus = search (rules, a.price) }
