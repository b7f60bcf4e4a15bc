use Rattle.std.proofs.Common.{◌<◌, length, length-set, ◌∙◌, arith}
use Rattle.lagrangian.proofs.Repairs.{supplier_few, held_is, held_more, held_picks}
use Rattle.lagrangian.proofs.repair.clamped.Goals as goal

pub loop-i-preserved : goal.loop-i-preserved
loop-i-preserved c =
    let inv = c.loop-i.invariant in
    let place : c.loop-i.i < length c.loop-i.clamped = omega (arith, inv.places, supplier_few c.args.job.now c.loop-i.i (omega arith)) in
    record {
      places = length-set c.loop-i.clamped c.loop-i.i c.min.result ∙ inv.places;
      done = held_more c.args.area.now c.args.picks.now c.loop-i.clamped c.loop-i.i c.min.result place
          (held_is c.args.area.now c.args.picks.now c.loop-i.i c.max.result c.min.result (omega (arith, c.max.ensures, c.low_of.ensures)) (omega (arith, c.min.ensures, c.high_of.ensures))) inv.done;
    }

pub returns-clause-picks : goal.returns-clause-picks
returns-clause-picks c =
    held_picks c.args.job.now c.args.area.now c.args.picks.now c.loop-i.clamped c.requires.of_job c.loop-i.invariant.places
    (λ i below. c.loop-i.invariant.done i (omega arith))
