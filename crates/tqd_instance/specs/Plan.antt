-- The purchase that a plan writes down.
use Rattle.std.specs.Prelude.{ℕ, ◌≡◌, ◌+◌, ◌*◌, slice_index}
use Rattle.tqd_instance.specs.declared.job.Job.{Job}
use Rattle.tqd_instance.specs.declared.plan.Plan.{Plan}
use Rattle.tqd_instance.specs.Job.{goods, suppliers}

unfoldable pub plan_suppliers : Plan → ℕ
plan_suppliers plan = plan.suppliers

unfoldable pub plan_goods : Plan → ℕ
plan_goods plan = plan.goods

-- the units that a plan buys from supplier i of good k
unfoldable pub units : Plan → ℕ → ℕ → ℕ
units plan i k = slice_index plan.cells (i * plan.goods + k)

-- the plan has a row for each supplier of the job and a column for each good
pub record IsSizedFor (job : Job) (plan : Plan) : Type 0 where
  pub suppliers : plan_suppliers plan ≡ suppliers job
  pub goods : plan_goods plan ≡ goods job
