use Rattle.std.proofs.Common.{arith}
use Rattle.mcf_lower.specs.Net.{arc_of}
use Rattle.mcf_lower.proofs.Rooms.{placed_most}
use Rattle.mcf_lower.proofs.pseudoflow.sums.Goals as goal

pub overflow_add-supply : goal.overflow_add-supply
overflow_add-supply c =
    let i = c.loop-a.invariant in
    let n = c.flow_on-flow.ensures.network in
    let h = rw (← c.arc_of-arc.ensures.is) at (n.each c.loop-a.a (omega (arith, c.arcs-a-end.ensures.is))) in
    omega (
      arith,
      i.brought c.arc_of-arc.result.head h.head,
      n.arcs_few,
      placed_most c.args.net.now c.args.room.now c.loop-a.a c.arc_of-arc.result.head (λ a. (arc_of c.args.net.now a).head) n c.requires.bounded (omega (arith, c.arcs-a-end.ensures.is)),
    )

pub overflow_add-demand : goal.overflow_add-demand
overflow_add-demand c =
    let i = c.loop-a.invariant in
    let n = c.flow_on-flow.ensures.network in
    let h = rw (← c.arc_of-arc.ensures.is) at (n.each c.loop-a.a (omega (arith, c.arcs-a-end.ensures.is))) in
    omega (
      arith,
      i.taken c.arc_of-arc.result.tail h.tail,
      n.arcs_few,
      placed_most c.args.net.now c.args.room.now c.loop-a.a c.arc_of-arc.result.tail (λ a. (arc_of c.args.net.now a).tail) n c.requires.bounded (omega (arith, c.arcs-a-end.ensures.is)),
    )
