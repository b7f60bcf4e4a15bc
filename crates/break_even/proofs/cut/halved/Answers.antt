use Rattle.std.proofs.Common.{arith, ◌+◌, ◌/◌}
use Rattle.break_even.proofs.Cuts.{none_found}
use Rattle.break_even.proofs.cut.halved.Goals as goal

pub loop-vain-preserved : goal.loop-vain-preserved
loop-vain-preserved g c = record {
  below = omega (arith, c.loop-vain-test.true);
  within = c.loop-vain.invariant.within;
  gains = c.loop-vain.invariant.gains;
  none = none_found c.args.job.now c.args.i c.args.before ((c.loop-vain.vain + c.loop-vain.cut) / 2) c.in_ok-cost.field-0 c.in_ok-cost.ensures c.in-None.is;
}

pub returns : goal.returns
returns g c = record {
  some = omega (arith, c.loop-vain.invariant.below);
  within = c.loop-vain.invariant.within;
  gains = c.loop-vain.invariant.gains;
  none_below = λ d some below. c.loop-vain.invariant.none d some (omega (arith, c.loop-vain-test.false));
}
