use Rattle.std.proofs.Common.{ℕ, ◌<◌, ◌≡◌, sum}
use Rattle.lagrangian.specs.declared.weights.TheConstants.{WHOLE}
use Rattle.lagrangian.specs.Columns.{HasPlaces}
use Rattle.lagrangian.specs.Bundle.{IsBundleOf, AreInBox, mixture_at}
use Rattle.lagrangian.proofs.bundle.Bundle.add.Given as goal

abbrev pub invariant-loop-i : goal.invariant-loop-i
invariant-loop-i l = record {
  made : IsBundleOf l.job l.self;
  inside : AreInBox l.job l.area l.self;
  places : (at : ℕ) → at < l.i → HasPlaces (mixture_at l.self at);
  whole : (at : ℕ) → at < l.i → sum (mixture_at l.self at).weights ≡ WHOLE;
}
