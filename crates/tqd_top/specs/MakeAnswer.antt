-- The answer of `make`.
use Rattle.std.specs.Prelude.{ℕ, ◌≡◌}
use Rattle.tqd_base.specs.World.{Bytes}
use Rattle.tqd_instance.specs.declared.job.Job.{Job}
use Rattle.tqd_instance.specs.declared.plan.Plan.{Plan}
use Rattle.order_gen.specs.GenParts.{IsGenJob}
use Rattle.plan_report.specs.AnswerText.{summary_text}
use Rattle.tqd_top.specs.Certificate.{IsLeastPlan}

-- the text sums up the job that is made of these numbers, and what a least purchase of it costs
pub record SumsUp (seed goods suppliers : ℕ) (text : Bytes) : Type 0 where
  pub job : Job
  pub is_made : IsGenJob seed goods suppliers job
  pub plan : Plan
  pub amount : ℕ
  pub least : IsLeastPlan job plan amount
  pub text_is : text ≡ summary_text seed goods suppliers amount
