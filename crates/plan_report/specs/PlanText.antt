-- The text that a plan is printed as.
use Rattle.std.specs.Prelude.{ℕ, ◌*◌, ◌==◌, if◌then◌else◌, [], ◌∷◌, ◌++◌, codes, decimal}
use Rattle.money.specs.Price.{cost_text}
use Rattle.tqd_base.specs.World.{Bytes}
use Rattle.tqd_instance.specs.declared.job.Job.{Job}
use Rattle.tqd_instance.specs.Job.{goods, suppliers, low, price, fee}
use Rattle.tqd_instance.specs.Purchase.{Purchase, total}
use Rattle.tqd_instance.specs.Cost.{cost, goods_cost, selected}
use Rattle.plan_report.specs.Lines.{line, texts_to}

-- so many units of a part, where there are any: the part, the units, the price of one and of all
unfoldable pub buy_line : Bytes → ℕ → ℕ → Bytes
buy_line part units price = if units == 0 then [] else
    line (codes "buy") (part ∷ decimal units ∷ cost_text price ∷ cost_text (units * price) ∷ [])

-- what is bought of good k from supplier i, at the prices of the segment that the supplier's total selects
unfoldable pub buy_text : Job → Purchase → (ℕ → Bytes) → ℕ → ℕ → Bytes
buy_text job x part i k = buy_line (part k) (x i k) (price job i (selected job x i) k)

-- the fee of a supplier, where it has one
unfoldable pub fee_text : Job → ℕ → Bytes
fee_text job i = if fee job i == 0 then [] else line (codes "fee") (cost_text (fee job i) ∷ [])

-- what is bought from a supplier, where anything is: its total, the low of the segment and the cost without the fee; the
-- fee; and each good
unfoldable pub supplier_text : Job → Purchase → (ℕ → Bytes) → (ℕ → Bytes) → ℕ → Bytes
supplier_text job x part supplier i = if total job x i == 0 then [] else
    line (codes "supplier") (supplier i ∷ decimal (total job x i) ∷ decimal (low job i (selected job x i)) ∷ cost_text (goods_cost job x i) ∷ [])
    ++ fee_text job i
    ++ texts_to (goods job) (buy_text job x part i)

-- the cost, and then each supplier that is bought from
unfoldable pub plan_text : Job → Purchase → (ℕ → Bytes) → (ℕ → Bytes) → Bytes
plan_text job x part supplier = line (codes "solved") (cost_text (cost job x) ∷ []) ++ texts_to (suppliers job) (supplier_text job x part supplier)
