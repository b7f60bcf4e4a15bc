use Rattle.std.proofs.Common.{◌+◌, length, arith}
use Rattle.box_bound.proofs.Nets.{few_arcs}
use Rattle.box_bound.proofs.net.add_needs.Goals as goal

pub add-requires-clause-few : goal.add-requires-clause-few
add-requires-clause-few c = omega (arith, few_arcs c.args.job.now (length c.loop-k.net.arcs + 1) (omega (arith, c.loop-k.invariant.arcs, c.requires.arcs)))
