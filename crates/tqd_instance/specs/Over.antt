-- The first good of which a purchase takes more from one supplier than its stock.
use Rattle.std.specs.Prelude.{ℕ, ◌<◌}
use Rattle.tqd_instance.specs.declared.job.Job.{Job}
use Rattle.tqd_instance.specs.Job.{goods, stock}
use Rattle.tqd_instance.specs.Purchase.{Purchase}
use Rattle.tqd_instance.specs.Feasible.{MeetsStock}

pub record IsFirstOver (job : Job) (x : Purchase) (i good : ℕ) : Type 0 where
  pub in_range : good < goods job
  pub fails : stock job i good < x i good
  pub first : (k : ℕ) → k < good → MeetsStock job x i k
