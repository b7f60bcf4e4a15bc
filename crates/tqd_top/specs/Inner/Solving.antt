-- Solving a job that was read, by cases on the answer.
use Rattle.std.specs.Prelude.{ℕ, ◌≡◌, ◌⊎◌, Option, None, Some, Result, Ok, Err}
use Rattle.tqd_base.specs.World.{State, Name, Bytes, Rose}
use Rattle.tqd_instance.specs.declared.plan.Plan.{Plan}
use Rattle.tqd_instance.specs.Plan.{units}
use Rattle.plan_report.specs.Named.{good_at, name_at}
use Rattle.plan_report.specs.PlanText.{plan_text}
use Rattle.plan_report.specs.AnswerText.{infeasible_text}
use Rattle.tqd_top.specs.declared.answer.Answer.{Answer}
use Rattle.tqd_top.specs.declared.answer.Answer.TheVariants.{Solved, Infeasible}
use Rattle.tqd_top.specs.declared.answer.Reply.{Reply}
use Rattle.tqd_top.specs.declared.answer.NoReply.{NoReply}
use Rattle.tqd_top.specs.declared.answer.NoReply.TheVariants.{Tree, Memory}
use Rattle.tqd_top.specs.declared.reading.JobRead.{JobRead}
use Rattle.tqd_top.specs.Solves.{IsCut, IsSolved}
use Rattle.tqd_top.specs.Inner.Saving.{IsSteady}

-- the text of a plan with its cost, or of none
abbrev pub solution_text : JobRead → Option (Plan × ℕ) → Bytes
solution_text read None = infeasible_text
solution_text read (Some best) =
    plan_text read.job (units best.0) (good_at read.bill.names read.needs.goods) (name_at read.book.suppliers)

abbrev pub solution_answer : Option (Plan × ℕ) → Answer
solution_answer None = Infeasible
solution_answer (Some best) = Solved best.0 best.1

abbrev pub SolveGives : JobRead → Option Bytes → State → State → Option Name → Result Reply NoReply → Type 0
SolveGives read from old new file (Ok reply) =
    IsSteady old new × IsSolved read from old.world new.world file reply.answer reply.text.items
SolveGives read from old new file (Err Tree) =
    IsSteady old new × Rose old.faults.writing new.faults.writing × IsCut read from old.world new.world file
SolveGives read from old new file (Err Memory) =
    IsSteady old new × ((new.world ≡ old.world) ⊎ IsCut read from old.world new.world file)
