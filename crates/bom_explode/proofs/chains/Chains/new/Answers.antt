use Rattle.std.proofs.Common.{arith}
use Rattle.bom_explode.specs.Structure.{structure_of}
use Rattle.bom_explode.specs.Ways.{along}
use Rattle.bom_explode.proofs.Chaining.{AreChainsTo-step}
use Rattle.bom_explode.proofs.chains.Chains.new.Goals as goal

pub index-requires : goal.index-requires
index-requires c = omega (arith, c.loop-l.invariant.made.firsts)

pub index_mut-requires : goal.index_mut-requires
index_mut-requires c = omega (arith, c.loop-l.invariant.made.firsts)

pub loop-l-preserved : goal.loop-l-preserved
loop-l-preserved c = record {
  kept = c.loop-l.invariant.kept;
  lines = c.loop-l.invariant.lines;
  made = AreChainsTo-step (along c.args.way (structure_of c.args.bill.now)) c.loop-l.l c.loop-l.first.items c.loop-l.next.items
      c.ends-start.result.0 c.index.result.now _ c.loop-l.invariant.made c.ends-start.ensures.start c.ends-start.ensures.start_inside
      c.index.ensures c.in_ok-push.ensures.items;
}
