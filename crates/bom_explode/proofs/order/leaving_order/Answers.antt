use Rattle.std.proofs.Common.{arith}
use Rattle.bom_explode.specs.Structure.{structure_of}
use Rattle.bom_explode.specs.Ways.{along}
use Rattle.bom_explode.specs.declared.structure.Way.TheVariants.{Down}
use Rattle.bom_explode.proofs.Ordering.{IsOrder-idle}
use Rattle.bom_explode.proofs.order.leaving_order.Goals as goal

pub returns : goal.returns
returns c = IsOrder-idle (along Down (structure_of c.args.bill.now)) c.loop-root.search c.loop-root.invariant.idle
    (λ n b. c.loop-root.invariant.found n (omega (arith, c.loop-root.invariant.count, c.names-root-end.ensures.value)))
