use Rattle.std.proofs.Common.{◌≡◌, ◌*◌, ◌≤◌}
use Rattle.tqd_base.specs.declared.limits.TheConstants.{QTY_MAX}
use Rattle.tqd_base.specs.Sum.{sum_to}
use Rattle.tqd_instance.specs.Built.{stock_of}
use Rattle.tqd_instance.proofs.build.stock_sum.Given as goal

abbrev pub invariant-loop-i : goal.invariant-loop-i
invariant-loop-i l = record {
  is_sum : l.sum ≡ sum_to l.i (λ i. stock_of l.parts i l.k);
  fits : l.sum ≤ l.i * QTY_MAX;
}
