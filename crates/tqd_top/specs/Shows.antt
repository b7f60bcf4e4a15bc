-- What the file of a tree shows of a job.
use Rattle.std.specs.Prelude.{◌≡◌, Bool, None, Some, IfSome}
use Rattle.tqd_base.specs.World.{World, Name, Bytes, IsReadable, bytes_at}
use Rattle.tqd_instance.specs.declared.job.Job.{Job}
use Rattle.tree_checker.specs.declared.rejection.Verdict.{Verdict}
use Rattle.tree_checker.specs.declared.rejection.Verdict.TheVariants.{Optimal, NoPurchase, Rejected}
use Rattle.tree_checker.specs.Verdict.{verdict}
use Rattle.tree_checker.specs.CheckFrom.{IsTooLong}
use Rattle.plan_report.specs.AnswerText.{accepted_text}
use Rattle.plan_report.specs.RejectionText.{rejection_text}
use Rattle.tqd_top.specs.declared.answer.Answer.{Answer}
use Rattle.tqd_top.specs.declared.answer.Answer.TheVariants.{Accepted, AcceptedNone, Rejected as IsRejected}
use Rattle.tqd_top.specs.Reads.{ReadsAs}

-- the answer to what a text shows, and what is printed for it
abbrev pub VerdictAnswer : Verdict → Answer → Bytes → Type 0
VerdictAnswer shown (Accepted cost) text = (shown ≡ Optimal cost) × (text ≡ accepted_text (Some cost))
VerdictAnswer shown AcceptedNone text = (shown ≡ NoPurchase) × (text ≡ accepted_text None)
VerdictAnswer shown (IsRejected rejection) text = (shown ≡ Rejected rejection) × (text ≡ rejection_text rejection)
VerdictAnswer shown _ text = ⊥

-- this is what the text of a file shows of a job; and the file, where told, is not too long
pub record Shows (absent_is_empty : Bool) (w : World) (tree : Name) (job : Job) (shown : Verdict) : Type 0 where
  pub text : Bytes
  pub reads : ReadsAs absent_is_empty w tree text
  pub is_verdict : shown ≡ verdict job text
  pub within : IfSome (bytes_at w tree) (λ bytes. IsTooLong job bytes → ⊥)

-- the file, where told, is too long: of more than 2 ^ 62 bytes, of which the first 2 ^ 62 are not rejected whatever
-- follows
pub record IsLongTree (absent_is_empty : Bool) (w : World) (tree : Name) (job : Job) : Type 0 where
  pub readable : IsReadable absent_is_empty w tree
  pub beyond : IfSome (bytes_at w tree) (IsTooLong job)
