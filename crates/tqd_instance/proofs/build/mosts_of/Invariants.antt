use Rattle.std.proofs.Common.{◌≡◌}
use Rattle.tqd_instance.specs.Built.{most_of, table}
use Rattle.tqd_instance.proofs.build.mosts_of.Given as goal

abbrev pub invariant-loop-k : goal.invariant-loop-k
invariant-loop-k l = l.mosts.items ≡ table l.k (most_of l.parts)
