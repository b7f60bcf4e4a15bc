use Rattle.std.proofs.Common.{◌≡◌, ℕ, ◌<◌, slice_index}
use Rattle.tqd_instance.specs.Job.{goods}
use Rattle.tqd_instance.specs.Plan.{units, IsSizedFor}
use Rattle.box_bound.specs.BoxNet.{offer_place}
use Rattle.box_bound.proofs.flow.plan_of.Given as goal

abbrev pub invariant-loop-i : goal.invariant-loop-i
invariant-loop-i l = record {
  size : IsSizedFor l.job l.plan;
  rows : (i k : ℕ) → i < l.i → k < goods l.job → units l.plan i k ≡ slice_index l.flow (offer_place l.job i k);
}
