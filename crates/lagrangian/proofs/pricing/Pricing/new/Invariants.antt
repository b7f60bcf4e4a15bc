use Rattle.std.proofs.Common.{◌≡◌, length}
use Rattle.std.specs.List.{All}
use Rattle.tqd_instance.specs.Job.{goods}
use Rattle.lagrangian.specs.Priced.{IsInRange}
use Rattle.lagrangian.proofs.pricing.Pricing.new.Given as goal

abbrev pub invariant-loop-i : goal.invariant-loop-i
invariant-loop-i l = record {
  count : length l.found.items ≡ l._i;
  in_range : All (IsInRange (goods l.job)) l.found.items;
}
