-- What contracts see of a book.
use Rattle.std.specs.Prelude.{ℕ, ◌≡◌, List, [], ◌∷◌, Option, None, option_map}
use Rattle.tqd_instance.specs.declared.job.Job.{Job}
use Rattle.tqd_instance.specs.declared.plan.Plan.{Plan}
use Rattle.interval_box.specs.declared.boxes.IntervalBox.{IntervalBox}
use Rattle.interval_box.specs.Ranges.{IsRoot}
use Rattle.search_book.specs.declared.node.Node.{Node}
use Rattle.search_book.specs.declared.node.Phase.TheVariants.{Open}

-- the job, the nodes, numbered from 0, and the best plan with its cost, or none
pub record BookState : Type 0 where
  pub job : Job
  pub nodes : List Node
  pub best : Option (Plan × ℕ)

-- the cost of the best plan, or none
abbrev pub best_cost : BookState → Option ℕ
best_cost s = option_map (λ best. best.1) s.best

-- the opening state of a job: one Open node, which is the root, and no plan
pub record IsOpening (job : Job) (s : BookState) : Type 0 where
  pub job_is : s.job ≡ job
  pub root : IntervalBox
  pub is_root : IsRoot job root
  pub nodes : s.nodes ≡ record { area = root; phase = Open } ∷ []
  pub best : s.best ≡ None
