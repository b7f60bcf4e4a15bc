-- Purchases that agree on a job are feasible together, and cost the same.
use Rattle.std.proofs.Common.{ℕ, ◌≡◌, ◌+◌, ◌*◌, ◌<◌, ◌==◌, IsSome, if◌then◌else◌, refl, ap, ◌∙◌, subst, arith}
use Rattle.tqd_instance.specs.declared.job.Job.{Job}
use Rattle.tqd_instance.specs.Job.{goods, suppliers, price, fee, pick}
use Rattle.tqd_instance.specs.Purchase.{Purchase, total, bought, wins, winners}
use Rattle.tqd_instance.specs.Feasible.{Feasible}
use Rattle.tqd_instance.specs.Cost.{cost, selected, goods_cost, fee_cost}
use Rattle.tqd_instance.proofs.SumLemmas.{sum_to-same}

-- the same units in all places of the job
abbrev pub Agree : Job → Purchase → Purchase → Type 0
Agree job x y = (i k : ℕ) → i < suppliers job → k < goods job → x i k ≡ y i k

total_agrees : (job : Job) (x y : Purchase) → Agree job x y → (i : ℕ) → i < suppliers job → total job x i ≡ total job y i
unfolding total
total_agrees job x y same i supplier = sum_to-same (goods job) (x i) (y i) (λ k good. same i k supplier good)

bought_agrees : (job : Job) (x y : Purchase) → Agree job x y → (k : ℕ) → k < goods job → bought job x k ≡ bought job y k
unfolding bought
bought_agrees job x y same k good = sum_to-same (suppliers job) (λ i. x i k) (λ i. y i k) (λ i supplier. same i k supplier good)

winners_agree : (job : Job) (x y : Purchase) → Agree job x y → winners job x ≡ winners job y
unfolding winners wins
winners_agree job x y same = sum_to-same (suppliers job) (wins job x) (wins job y) (λ i supplier. ap (λ (t : ℕ). if t == 0 then 0 else 1) (total_agrees job x y same i supplier))

goods_cost_agrees : (job : Job) (x y : Purchase) → Agree job x y → (i : ℕ) → i < suppliers job → goods_cost job x i ≡ goods_cost job y i
unfolding goods_cost selected
goods_cost_agrees job x y same i supplier =
    let all = total_agrees job x y same i supplier in
    let chosen : selected job x i ≡ selected job y i = rw all refl in
    sum_to-same (goods job) (λ k. x i k * price job i (selected job x i) k) (λ k. y i k * price job i (selected job y i) k)
    (λ k good. ap (λ (j : ℕ). x i k * price job i j k) chosen ∙ ap (λ (u : ℕ). u * price job i (selected job y i) k) (same i k supplier good))

fee_cost_agrees : (job : Job) (x y : Purchase) → Agree job x y → (i : ℕ) → i < suppliers job → fee_cost job x i ≡ fee_cost job y i
unfolding fee_cost
fee_cost_agrees job x y same i supplier = ap (λ (t : ℕ). if t == 0 then 0 else fee job i) (total_agrees job x y same i supplier)

pub cost_agrees : (job : Job) (x y : Purchase) → Agree job x y → cost job x ≡ cost job y
unfolding cost
cost_agrees job x y same = sum_to-same (suppliers job) (λ i. goods_cost job x i + fee_cost job x i) (λ i. goods_cost job y i + fee_cost job y i)
    (λ i supplier. omega (arith, goods_cost_agrees job x y same i supplier, fee_cost_agrees job x y same i supplier))

pub feasible_agrees : (job : Job) (x y : Purchase) → Agree job x y → Feasible job x → Feasible job y
feasible_agrees job x y same f = record {
  needs = λ k good. record {
    enough = omega (arith, bought_agrees job x y same k good, (f.needs k good).enough);
    not_more = omega (arith, bought_agrees job x y same k good, (f.needs k good).not_more);
  };
  stocks = λ i k supplier good. omega (arith, same i k supplier good, f.stocks i k supplier good);
  picks = λ i supplier. subst (λ (t : ℕ). IsSome (pick job i t)) (total_agrees job x y same i supplier) (f.picks i supplier);
  winners = record {
    enough = omega (arith, winners_agree job x y same, f.winners.enough);
    not_more = omega (arith, winners_agree job x y same, f.winners.not_more);
  };
}
