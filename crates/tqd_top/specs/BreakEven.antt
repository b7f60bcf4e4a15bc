-- The answers of `break-even` to a job and the name of a supplier.
use Rattle.std.specs.Prelude.{ℕ, ◌≡◌, Bool, List, None, Some, IsSome, Ok}
use Rattle.tqd_base.specs.World.{World, Name, Bytes}
use Rattle.bom_reader.specs.Names.{number_of}
use Rattle.tqd_instance.specs.Least.{HasNoPurchase}
use Rattle.order_gen.specs.GenParts.{HasPurchase}
use Rattle.break_even.specs.declared.cut.CutAnswer.{CutAnswer}
use Rattle.break_even.specs.LeastCut.{IsLeastCut}
use Rattle.plan_report.specs.AnswerText.{break_even_text, infeasible_text}
use Rattle.plan_report.specs.declared.fault.FileFault.TheVariants.{NoSupplier}
use Rattle.tqd_top.specs.declared.answer.Answer.{Answer}
use Rattle.tqd_top.specs.declared.answer.Answer.TheVariants.{Infeasible, Listed, BadInput}
use Rattle.tqd_top.specs.declared.reading.JobRead.{JobRead}
use Rattle.command_words.specs.Words.{FilesNamed, IsBreakEven}
use Rattle.tqd_top.specs.JobOf.{IsJobOutcome, plainly}

-- a supplier of the job has this name
abbrev pub HasSupplier : JobRead → Name → Type 0
HasSupplier read supplier = IsSome (number_of read.book.suppliers supplier)

-- none has it
abbrev pub HasNoSupplier : JobRead → Name → Type 0
HasNoSupplier read supplier = number_of read.book.suppliers supplier ≡ None

-- the text tells the least cut of the prices of the supplier of this name that lowers the least cost
pub record IsCutText (read : JobRead) (supplier : Name) (text : Bytes) : Type 0 where
  pub i : ℕ
  pub is_supplier : number_of read.book.suppliers supplier ≡ Some i
  pub answer : CutAnswer
  pub is_least : IsLeastCut read.job i answer
  pub text_is : text ≡ break_even_text supplier answer

-- the answer to a job that was read, and its text: the least cut, where a purchase is feasible; that none is; or that
-- no supplier has this name
abbrev pub AnswersCut : JobRead → Name → Answer → Bytes → Type 0
AnswersCut read supplier Listed text = HasPurchase read.job × IsCutText read supplier text
AnswersCut read supplier Infeasible text =
    HasNoPurchase read.job × HasSupplier read supplier × (text ≡ infeasible_text)
AnswersCut read supplier (BadInput fault) text =
    HasNoSupplier read supplier × (record { fault = fault; text = text } ≡ plainly NoSupplier)
AnswersCut read supplier _ text = ⊥

-- the files state a job, and this is the answer
pub record IsCutAnswer (absent_is_empty : Bool) (w : World) (files : FilesNamed) (supplier : Name) (answer : Answer)
    (text : Bytes) : Type 0 where
  pub read : JobRead
  pub stated : IsJobOutcome absent_is_empty w files (Ok read)
  pub answers : AnswersCut read supplier answer text

-- the words are a `break-even`, its files state a job of which no purchase is feasible, and a supplier has the name
pub record IsCutInfeasible (absent_is_empty : Bool) (old : World) (words : List Name) (text : Bytes) : Type 0 where
  pub files : FilesNamed
  pub supplier : Name
  pub is_break_even : IsBreakEven words files supplier
  pub found : IsCutAnswer absent_is_empty old files supplier Infeasible text
