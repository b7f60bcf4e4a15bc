-- Finding a cut, step by step.
use Rattle.std.specs.Prelude.{ℕ, ◌≡◌}
use Rattle.tqd_base.specs.World.{Name}
use Rattle.tqd_instance.specs.declared.job.Job.{Job}
use Rattle.break_even.specs.declared.cut.CutAnswer.{CutAnswer}
use Rattle.break_even.specs.declared.cut.CutAnswer.TheVariants.{NoPurchase, NoCut, Cut}
use Rattle.break_even.specs.LeastCut.{IsLeastCut}
use Rattle.plan_report.specs.AnswerText.{break_even_text}
use Rattle.tqd_top.specs.declared.answer.Answer.{Answer}
use Rattle.tqd_top.specs.declared.answer.Answer.TheVariants.{Infeasible, Listed}
use Rattle.tqd_top.specs.declared.answer.Reply.{Reply}

-- the answer that a cut is
abbrev pub cut_answer : CutAnswer → Answer
cut_answer NoPurchase = Infeasible
cut_answer (NoCut before) = Listed
cut_answer (Cut cut before after) = Listed

-- the least cut that pays of the prices of supplier i, told by this name
pub record CutReply (job : Job) (i : ℕ) (supplier : Name) (reply : Reply) : Type 0 where
  pub found : CutAnswer
  pub is_least : IsLeastCut job i found
  pub answer_is : reply.answer ≡ cut_answer found
  pub text_is : reply.text.items ≡ break_even_text supplier found
