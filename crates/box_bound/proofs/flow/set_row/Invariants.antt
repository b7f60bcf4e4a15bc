use Rattle.std.proofs.Common.{◌≡◌, ℕ, ◌<◌, slice_index}
use Rattle.tqd_instance.specs.Job.{goods}
use Rattle.tqd_instance.specs.Plan.{units, IsSizedFor}
use Rattle.box_bound.specs.BoxNet.{offer_place}
use Rattle.box_bound.proofs.flow.set_row.Given as goal

abbrev pub invariant-loop-k : goal.invariant-loop-k
invariant-loop-k l = record {
  size : IsSizedFor l.job l.plan;
  row : (k : ℕ) → k < l.k → units l.plan l.i k ≡ slice_index l.flow (offer_place l.job l.i k);
  others : (a k : ℕ) → k < goods l.job → (a ≡ l.i → ⊥) → units l.plan a k ≡ units l.fn.plan a k;
}
