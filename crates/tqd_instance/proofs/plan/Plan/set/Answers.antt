use Rattle.std.proofs.Common.{ℕ, ◌≡◌, ◌+◌, ◌*◌, ◌<◌, ◌≢◌}
use Rattle.std.proofs.lemmas.List.{get_or-set_other}
use Rattle.std.proofs.lemmas.Nat.{same_from_place}
use Rattle.tqd_instance.specs.Plan.{plan_goods, units}
use Rattle.tqd_instance.proofs.plan.Plan.set.Goals as goal

-- two places of the table are the same only where their rows and their columns are
other_place : (i k a b w : ℕ) → k < w → b < w → (a ≡ i → b ≡ k → ⊥) → a * w + b ≢ i * w + k
other_place i k a b w k_in b_in differ same =
    let parts = same_from_place a b i k w b_in k_in same in
    differ parts.0 parts.1

pub returns-clause-others : goal.returns-clause-others
unfolding plan_goods units
returns-clause-others c = λ a b b_in differ.
    let plan = c.args.self.now in
    let other = other_place c.args.i c.args.k a b plan.goods c.requires.good b_in differ in
    rw (c.set.ensures, c.place-place.ensures.value)
    (get_or-set_other plan.cells (c.args.i * plan.goods + c.args.k) (a * plan.goods + b) c.args.n 0 other)
