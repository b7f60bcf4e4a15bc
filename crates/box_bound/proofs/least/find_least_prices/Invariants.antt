use Rattle.std.proofs.Common.{◌≡◌, ℕ, ◌+◌, ◌-◌, ◌<◌, length, slice_index}
use Rattle.tqd_instance.specs.Job.{goods, price}
use Rattle.box_bound.specs.Relaxed.{lowest_from}
use Rattle.box_bound.proofs.least.find_least_prices.Given as goal

abbrev pub invariant-loop-j : goal.invariant-loop-j
invariant-loop-j l = record {
  len : length l.least ≡ goods l.job;
  each : (k : ℕ) → k < goods l.job → slice_index l.least k ≡ lowest_from l.first (l.j - (l.first + 1)) (λ j. price l.job l.i j k);
}
