use Rattle.std.proofs.Common.{ℕ, ◌<◌}
use Rattle.interval_box.specs.Ranges.{low_of, high_of}
use Rattle.lagrangian.specs.Columns.{AreSegmentsIn}
use Rattle.lagrangian.specs.Bundle.{IsBundleOf, mixture_at}
use Rattle.lagrangian.proofs.bundle.Bundle.confine.Given as goal

abbrev pub invariant-loop-i : goal.invariant-loop-i
invariant-loop-i l = record {
  made : IsBundleOf l.job l.self;
  inside : (at : ℕ) → at < l.i → AreSegmentsIn (low_of l.area at) (high_of l.area at) (mixture_at l.self at);
}
