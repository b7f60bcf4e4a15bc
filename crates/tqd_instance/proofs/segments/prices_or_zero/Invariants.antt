use Rattle.std.proofs.Common.{◌≡◌}
use Rattle.tqd_instance.specs.Built.{table}
use Rattle.tqd_instance.specs.Rows.{price_or_zero}
use Rattle.tqd_instance.proofs.segments.prices_or_zero.Given as goal

abbrev pub invariant-loop-k : goal.invariant-loop-k
invariant-loop-k l = l.prices.items ≡ table l.k (price_or_zero l.parts l.i l.from)
