use Rattle.std.proofs.Common.{subst, arith}
use Rattle.mcf_lower.specs.declared.found.Solved.{Solved}
use Rattle.mcf_lower.specs.Answers.{IsSolution, IsPricedFlow}
use Rattle.flow_prices.proofs.prices.cheapest_from.Goals as goal

pub bounded-requires-clause-nodes : goal.bounded-requires-clause-nodes
bounded-requires-clause-nodes c =
    let s : IsPricedFlow c.args.net.now c.in-Flow.flow c.in-Flow.numbers.items = subst (λ (x : Solved). IsSolution c.args.net.now x) c.in-Flow.is c.in_ok-flow.ensures in
    rw (c.deref.ensures.value) s.nodes

pub bounded-requires-clause-small : goal.bounded-requires-clause-small
bounded-requires-clause-small c =
    let s : IsPricedFlow c.args.net.now c.in-Flow.flow c.in-Flow.numbers.items = subst (λ (x : Solved). IsSolution c.args.net.now x) c.in-Flow.is c.in_ok-flow.ensures in
    rw (c.deref.ensures.value) (λ v l. s.small v (omega (arith, s.nodes)))

pub returns-in_ok-bounded-in-Flow : goal.returns-in_ok-bounded-in-Flow
returns-in_ok-bounded-in-Flow c =
    let s : IsPricedFlow c.args.net.now c.in-Flow.flow c.in-Flow.numbers.items = subst (λ (x : Solved). IsSolution c.args.net.now x) c.in-Flow.is c.in_ok-flow.ensures in
    let w = rw (c.deref.ensures.value) at c.in_ok-bounded-in-Flow.ensures in
    rw (c.from_vec-numbers.ensures) (w c.in-Flow.flow s)
