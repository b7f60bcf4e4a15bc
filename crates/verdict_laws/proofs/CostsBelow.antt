-- The numbers of a feasible purchase are within the limits of lines.
use Rattle.std.proofs.Common.{ℕ, zero, suc, ◌≡◌, ◌+◌, ◌*◌, ◌^◌, ◌<◌, ◌≤◌, Bool, true, false, Option, Some, None, IsSome, if◌then◌else◌, refl, arith, eqb}
use Rattle.std.specs.Prelude.{unwrap_or}
use Rattle.std.proofs.Math.Nat.{mul-le-mul, mul-le-mul_right}
use Rattle.tqd_base.specs.declared.limits.TheConstants.{QTY_MAX, PRICE_MAX, SUPPLIERS_MAX}
use Rattle.tqd_instance.specs.declared.job.Job.{Job}
use Rattle.tqd_instance.specs.Job.{goods, suppliers, segments, high, price, fee, pick}
use Rattle.tqd_instance.specs.Purchase.{Purchase, total}
use Rattle.tqd_instance.specs.Feasible.{Feasible}
use Rattle.tqd_instance.specs.Cost.{cost, selected, goods_cost, fee_cost}
use Rattle.tqd_instance.proofs.Jobs.{job_in_range}
use Rattle.tqd_instance.proofs.Picks.{picks_where_it_lies}
use Rattle.tqd_instance.proofs.SumLemmas.{sum_to-bound, sum_to-le, sum_to-mul}

price_within : (job : Job) (i j k : ℕ) → i < suppliers job → j ≤ segments job i → price job i j k ≤ PRICE_MAX
price_within job i zero k supplier within = omega (arith, ((job_in_range job).each_supplier i supplier).nothing_price k)
price_within job i (suc j) k supplier within = (((job_in_range job).each_supplier i supplier).each_segment (suc j) (omega arith) within).prices k

high_within : (job : Job) (i j : ℕ) → i < suppliers job → j ≤ segments job i → high job i j ≤ QTY_MAX
high_within job i zero supplier within = omega (arith, ((job_in_range job).each_supplier i supplier).nothing_high)
high_within job i (suc j) supplier within = (((job_in_range job).each_supplier i supplier).each_segment (suc j) (omega arith) within).within

-- a total that lies in a segment is within the limit, and each price of that segment too
record IsWithin (job : Job) (i units : ℕ) (o : Option ℕ) : Type 0 where
  total : units ≤ QTY_MAX
  prices : (k : ℕ) → price job i (unwrap_or o 0) k ≤ PRICE_MAX

picked_within : (job : Job) (i units : ℕ) (o : Option ℕ) → pick job i units ≡ o → IsSome o → i < suppliers job → IsWithin job i units o
picked_within job i units None is some supplier = absurd (cc)
picked_within job i units (Some j) is some supplier =
    let lies = ((picks_where_it_lies job i units supplier).some j).0 is in
    record { total = omega (arith, lies.to_high, high_within job i j supplier lies.segment); prices = λ k. price_within job i j k supplier lies.segment }

goods_within : (job : Job) (x : Purchase) (i : ℕ) → Feasible job x → i < suppliers job → goods_cost job x i ≤ PRICE_MAX * QTY_MAX
unfolding goods_cost selected total
goods_within job x i f supplier =
    let w = picked_within job i (total job x i) (pick job i (total job x i)) refl (f.picks i supplier) supplier in
    let j = unwrap_or (pick job i (total job x i)) 0 in
    let each = sum_to-le (goods job) (λ k. x i k * price job i j k) (λ k. PRICE_MAX * x i k)
    (λ k good. let most : x i k * price job i j k ≤ x i k * PRICE_MAX = mul-le-mul {n₁ = x i k} {m₁ = price job i j k} {n₂ = x i k} {m₂ = PRICE_MAX} (omega arith) (w.prices k) in omega (arith, most)) in
    let all = sum_to-mul (goods job) PRICE_MAX (x i) in
    omega (arith, each, all, w.total)

fee_within : (job : Job) (x : Purchase) (i : ℕ) → i < suppliers job → fee_cost job x i ≤ PRICE_MAX
unfolding fee_cost
fee_within job x i supplier = go (eqb (total job x i) 0) where
  go : (b : Bool) → (if b then 0 else fee job i) ≤ PRICE_MAX
  go true = omega arith
  go false = ((job_in_range job).each_supplier i supplier).fee_within

pub cost_below : (job : Job) (x : Purchase) → Feasible job x → cost job x < 10 ^ 23
unfolding cost
cost_below job x f =
    let each = sum_to-bound (suppliers job) (PRICE_MAX * QTY_MAX + PRICE_MAX) (λ i. goods_cost job x i + fee_cost job x i)
    (λ i supplier. omega (arith, goods_within job x i f supplier, fee_within job x i supplier)) in
    let all : suppliers job * (PRICE_MAX * QTY_MAX + PRICE_MAX) ≤ SUPPLIERS_MAX * (PRICE_MAX * QTY_MAX + PRICE_MAX) = mul-le-mul_right (PRICE_MAX * QTY_MAX + PRICE_MAX) (job_in_range job).few_suppliers in
    omega (arith, each, all)

pub units_within : (job : Job) (x : Purchase) (i k : ℕ) → Feasible job x → i < suppliers job → k < goods job → x i k ≤ QTY_MAX
units_within job x i k f supplier good = omega (arith, f.stocks i k supplier good, ((job_in_range job).each_supplier i supplier).stock_within k)
