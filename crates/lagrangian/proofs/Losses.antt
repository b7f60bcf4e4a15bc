-- How the losses of the goods change with the level: over a distance d by d times the units up to the lower level at
-- least, and by d times the units under the higher one at most.
use Rattle.std.proofs.Common.{ℕ, ◌+◌, ◌*◌, ◌≤◌, arith}
use Rattle.tqd_instance.proofs.SumLemmas.{sum_to-le, sum_to-add, sum_to-mul}
use Rattle.lagrangian.specs.Levels.{under, up_to, loss, goods_under, goods_up_to, goods_losses}
use Rattle.lagrangian.proofs.OneLevel.{rise_one, fall_one}

pub rise : (n : ℕ) (level cap : ℕ → ℕ) (top d : ℕ)
    → goods_losses n level cap top + d * goods_up_to n level cap top ≤ goods_losses n level cap (top + d)
unfolding goods_losses goods_up_to
rise n level cap top d =
    let lost = λ (k : ℕ). loss top (level k) (cap k) in
    let few = λ (k : ℕ). up_to top (level k) (cap k) in
    let each = sum_to-le n (λ k. lost k + d * few k) (λ k. loss (top + d) (level k) (cap k)) (λ k below. rise_one top d (level k) (cap k)) in
    omega (arith, sum_to-add n lost (λ k. d * few k), sum_to-mul n d few)

pub fall : (n : ℕ) (level cap : ℕ → ℕ) (top d : ℕ)
    → goods_losses n level cap (top + d) ≤ goods_losses n level cap top + d * goods_under n level cap (top + d)
unfolding goods_losses goods_under
fall n level cap top d =
    let lost = λ (k : ℕ). loss top (level k) (cap k) in
    let few = λ (k : ℕ). under (top + d) (level k) (cap k) in
    let each = sum_to-le n (λ k. loss (top + d) (level k) (cap k)) (λ k. lost k + d * few k) (λ k below. fall_one top d (level k) (cap k)) in
    omega (arith, sum_to-add n lost (λ k. d * few k), sum_to-mul n d few)
