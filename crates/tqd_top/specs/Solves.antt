-- The answer of `solve` and of `requote` to a job, with its text and the text of its tree.
use Rattle.std.specs.Prelude.{◌≡◌, Option, None, Some}
use Rattle.tqd_base.specs.World.{World, Name, Bytes}
use Rattle.tqd_instance.specs.Plan.{units}
use Rattle.tqd_instance.specs.Least.{HasNoPurchase}
use Rattle.plan_report.specs.Named.{good_at, name_at}
use Rattle.plan_report.specs.PlanText.{plan_text}
use Rattle.plan_report.specs.AnswerText.{infeasible_text}
use Rattle.tqd_top.specs.declared.answer.Answer.{Answer}
use Rattle.tqd_top.specs.declared.answer.Answer.TheVariants.{Solved, Infeasible}
use Rattle.tqd_top.specs.declared.reading.JobRead.{JobRead}
use Rattle.tqd_top.specs.Certificate.{IsCertificate, IsLeastPlan}
use Rattle.tqd_top.specs.SavedTree.{IsGivenCut, saved}

-- a least purchase and its text, or that no purchase is feasible; and the text of a tree that certifies it, grown from
-- an old text where there is one
abbrev pub SolvesJob : JobRead → Option Bytes → Answer → Bytes → Bytes → Type 0
SolvesJob read from (Solved plan amount) text tree = IsLeastPlan read.job plan amount
    × (text ≡ plan_text read.job (units plan) (good_at read.bill.names read.needs.goods) (name_at read.book.suppliers))
    × IsCertificate read.job from (Some (units plan)) tree
SolvesJob read from Infeasible text tree =
    HasNoPurchase read.job × (text ≡ infeasible_text) × IsCertificate read.job from None tree
SolvesJob read from _ text tree = ⊥

-- an answer, whose tree is saved where a file is given
pub record IsSolved (read : JobRead) (from : Option Bytes) (old new : World) (file : Option Name) (answer : Answer)
    (text : Bytes) : Type 0 where
  pub certificate : Bytes
  pub solves : SolvesJob read from answer text certificate
  pub saves : new ≡ saved old file certificate

-- an answer, whose tree is not saved, or cut short
pub record IsCut (read : JobRead) (from : Option Bytes) (old new : World) (file : Option Name) : Type 0 where
  pub answer : Answer
  pub text : Bytes
  pub certificate : Bytes
  pub solves : SolvesJob read from answer text certificate
  pub cut : IsGivenCut old new file certificate
