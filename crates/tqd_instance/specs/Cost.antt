-- What a purchase costs, in millionths of the currency.
use Rattle.std.specs.Prelude.{ℕ, ◌+◌, ◌*◌, ◌==◌, if◌then◌else◌, unwrap_or}
use Rattle.tqd_instance.specs.declared.job.Job.{Job}
use Rattle.tqd_base.specs.Sum.{sum_to}
use Rattle.tqd_instance.specs.Job.{goods, suppliers, price, fee, pick}
use Rattle.tqd_instance.specs.Purchase.{Purchase, total}

-- the segment that a supplier's total selects
unfoldable pub selected : Job → Purchase → ℕ → ℕ
selected job x i = unwrap_or (pick job i (total job x i)) 0

-- the units of each good times its price in the selected segment
unfoldable pub goods_cost : Job → Purchase → ℕ → ℕ
goods_cost job x i = sum_to (goods job) (λ k. x i k * price job i (selected job x i) k)

-- the fee of a supplier, where anything is bought there
unfoldable pub fee_cost : Job → Purchase → ℕ → ℕ
fee_cost job x i = if total job x i == 0 then 0 else fee job i

unfoldable pub cost : Job → Purchase → ℕ
cost job x = sum_to (suppliers job) (λ i. goods_cost job x i + fee_cost job x i)
