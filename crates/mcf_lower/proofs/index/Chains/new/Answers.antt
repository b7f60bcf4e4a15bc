use Rattle.std.proofs.Common.{arith, ap}
use Rattle.mcf_lower.specs.declared.net.Arc.{Arc}
use Rattle.mcf_lower.proofs.Edges.{IsChain-step}
use Rattle.mcf_lower.proofs.index.Chains.new.Goals as goal

pub loop-a-preserved : goal.loop-a-preserved
loop-a-preserved c =
    let n = c.arc_of-head.ensures.network in
    let h = rw (← c.arc_of-head.ensures.is) at (n.each c.loop-a.a (omega (arith, c.arcs-a-end.ensures.is))) in
    IsChain-step _ _ c.loop-a.a c.loop-a.first.items c.loop-a.next.items c.arc_of-head.result.head c.index.result.now _
    c.loop-a.invariant (ap (λ (x : Arc). x.head) c.arc_of-head.ensures.is) h.head
    c.index.ensures c.in_ok-push.ensures.items
