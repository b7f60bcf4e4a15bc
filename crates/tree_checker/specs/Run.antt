-- What a run over a text in pieces keeps of the bytes that it was fed.
use Rattle.std.specs.Prelude.{ℕ, ◌≡◌, ◌↔◌, List, length}
use Rattle.tqd_base.specs.World.{Bytes}
use Rattle.tqd_instance.specs.declared.job.Job.{Job}
use Rattle.tree_checker.specs.declared.rejection.Rejection.{Rejection}
use Rattle.tree_checker.specs.declared.rejection.Feed.{Feed}
use Rattle.tree_checker.specs.declared.rejection.Feed.TheVariants.{Rejected as FeedRejected}
use Rattle.tqd_instance.specs.declared.plan.Plan.{Plan}
use Rattle.interval_box.specs.declared.boxes.IntervalBox.{IntervalBox}
use Rattle.tree_checker.specs.declared.buffer.LineBuffer.{LineBuffer}
use Rattle.tree_checker.specs.declared.due.Due.{Due}
use Rattle.tree_checker.specs.declared.due.Due.TheVariants.{Ended}
use Rattle.tree_checker.specs.declared.slots.RowSlots.{RowSlots}
use Rattle.tree_checker.specs.declared.run.CheckRun.{CheckRun}
use Rattle.tree_checker.specs.Verdict.{Progress, reading, stopped, at_first, after_bytes, IsRejectedFor}
use Rattle.tree_checker.specs.Buffer.{Keeps}
use Rattle.tree_checker.specs.Judged.{IsDue}

-- the job that a run reads a tree of
unfoldable pub job_of : CheckRun → Job
job_of run = run.judge.job.now

-- how many bytes a run was fed
unfoldable pub taken_by : CheckRun → ℕ
taken_by run = run.taken

-- what is kept is what reading has come to: the number of lines, the line that is not ended yet and what is due; or the
-- rejection alone
abbrev pub KeepsProgress : Job → ℕ → LineBuffer → Due → Plan → List IntervalBox → RowSlots → Progress → Type 0
KeepsProgress job lines buffer due plan boxes kept (reading ended line phase) = (lines ≡ ended) × Keeps buffer line × IsDue job due plan boxes kept phase
KeepsProgress job lines buffer due plan boxes kept (stopped rejection) = due ≡ Ended rejection

abbrev pub IsAt : CheckRun → Progress → Type 0
IsAt run = KeepsProgress run.judge.job.now run.lines run.line run.judge.due run.judge.plan run.judge.boxes run.judge.slots

-- what a run keeps is what these bytes lead to
unfoldable pub Stands : CheckRun → Bytes → Type 0
Stands run fed = (run.taken ≡ length fed) × IsAt run (after_bytes run.judge.job.now at_first fed)

-- a piece is rejected exactly where the bytes fed are, whatever follows them
abbrev pub AnswersPiece : Job → Bytes → Feed → Type 0
AnswersPiece job fed answer = (rejection : Rejection) → (answer ≡ FeedRejected rejection) ↔ IsRejectedFor job fed rejection
