-- What the gap of a supplier is.
use Rattle.std.proofs.Common.{ℕ, ◌≡◌, ◌+◌, ◌-◌, ◌*◌, ◌<◌, ◌≤◌, arith, refl, ap, sym, ◌∙◌}
use Rattle.std.proofs.Math.Nat.{mul-sub}
use Rattle.tqd_base.specs.Sum.{sum_to}
use Rattle.tqd_instance.specs.declared.job.Job.{Job}
use Rattle.tqd_instance.specs.Job.{goods, price}
use Rattle.tqd_instance.specs.Purchase.{Purchase, total}
use Rattle.tqd_instance.proofs.SumLemmas.{sum_to-none, sum_to-zeros}
use Rattle.interval_box.specs.declared.boxes.IntervalBox.{IntervalBox}
use Rattle.branching.specs.Gap.{relaxed_price, paid_segment, gap}

-- where nothing is bought there is no gap
pub gap-none : (job : Job) (area : IntervalBox) (x : Purchase) (i : ℕ) → total job x i ≡ 0 → gap job area x i ≡ 0
unfolding gap total
gap-none job area x i none =
    sum_to-zeros (goods job) (λ k. x i k * price job i (paid_segment job x i) k - x i k * relaxed_price job area i k)
    (λ k below. let zero_units = sum_to-none (goods job) (x i) none k below in
    no_units (x i k) (price job i (paid_segment job x i) k) (relaxed_price job area i k) zero_units)
  where
    no_units : (n p q : ℕ) → n ≡ 0 → n * p - n * q ≡ 0
    no_units n p q e = omega (arith, ap (λ m. m * p) e)

-- the gap where the segment paid is known
pub gap-at : (job : Job) (area : IntervalBox) (x : Purchase) (i p sum : ℕ) → paid_segment job x i ≡ p
    → sum ≡ sum_to (goods job) (λ k. x i k * price job i p k - x i k * relaxed_price job area i k) → sum ≡ gap job area x i
unfolding gap
gap-at job area x i p sum paid is = is ∙ ap (λ p. sum_to (goods job) (λ k. x i k * price job i p k - x i k * relaxed_price job area i k)) (sym paid)

-- one term of it
pub term-is : (n real relaxed more : ℕ) → more ≡ real - relaxed → n * more ≡ n * real - n * relaxed
term-is n real relaxed more e = ap (λ m. n * m) e ∙ mul-sub n real relaxed
