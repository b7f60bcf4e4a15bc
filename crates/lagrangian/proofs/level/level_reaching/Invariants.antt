use Rattle.std.proofs.Common.{◌-◌, ◌≤◌, length, take}
use Rattle.std.specs.List.Sorted.{IsPermutation}
use Rattle.lagrangian.proofs.Reaching.{IsWindow}
use Rattle.lagrangian.proofs.level.level_reaching.Given as goal

abbrev pub invariant-select : goal.invariant-select
invariant-select l = record {
  same : IsPermutation l.fn.offers l.offers;
  size : l.len ≤ length l.offers;
  window : IsWindow l.fn.offers l.wanted l.from l.to l.below (take l.len l.offers);
}

abbrev pub decreases-select : goal.decreases-select
decreases-select l = l.to - l.from
