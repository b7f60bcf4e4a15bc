use Rattle.std.proofs.Common.{None, take}
use Rattle.tqd_instance.specs.Rows.{first_value, AreValues}
use Rattle.tqd_instance.proofs.offers.first_values.Given as goal

abbrev pub invariant-loop-good : goal.invariant-loop-good
invariant-loop-good l = AreValues l.goods None (first_value (take l.good-index l.pairs)) l.values.items
