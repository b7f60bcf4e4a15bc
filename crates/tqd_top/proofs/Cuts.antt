-- The answer to a cut that was found.
use Rattle.std.proofs.Common.{ℕ, ◌≡◌, ◌<◌, [], Option, None, Some, refl, sym, subst, arith}
use Rattle.std.specs.Prelude.{IsSome}
use Rattle.std.specs.Str.{bytes_eq}
use Rattle.std.proofs.lemmas.List.Quantifiers.{position-Some}
use Rattle.tqd_base.specs.World.{Name, Bytes}
use Rattle.bom_reader.specs.Names.{number_of}
use Rattle.offer_reader.specs.Book.{IsBook}
use Rattle.tqd_instance.specs.Job.{suppliers}
use Rattle.break_even.specs.declared.cut.CutAnswer.{CutAnswer}
use Rattle.break_even.specs.declared.cut.CutAnswer.TheVariants.{NoPurchase, NoCut, Cut}
use Rattle.break_even.specs.LeastCut.{IsLeastCut}
use Rattle.plan_report.specs.AnswerText.{break_even_text}
use Rattle.plan_report.specs.declared.fault.FileFault.TheVariants.{NoSupplier}
use Rattle.tqd_top.specs.declared.answer.Answer.{Answer}
use Rattle.tqd_top.specs.declared.answer.Answer.TheVariants.{BadInput}
use Rattle.tqd_top.specs.declared.answer.Reply.{Reply}
use Rattle.tqd_top.specs.declared.no_value.NoValue.{NoValue}
use Rattle.tqd_top.specs.declared.no_value.NoValue.TheVariants.{Bad, Unread, Memory}
use Rattle.tqd_top.specs.declared.reading.JobRead.{JobRead}
use Rattle.tqd_base.specs.declared.memory.Memory.{Memory as NoMemory}
use Rattle.std.specs.Prelude.{Result, Ok, Err, IfOk}
use Rattle.tqd_top.specs.JobOf.{plainly}
use Rattle.tqd_top.specs.BreakEven.{AnswersCut, HasNoSupplier}
use Rattle.tqd_top.specs.Inner.Cuts.{CutReply, cut_answer}
use Rattle.tqd_top.specs.Inner.ReadBook.{IsReadJob}
use Rattle.tqd_top.specs.Inner.Runs.{ReplyWithoutValue}
use Rattle.tqd_top.specs.Inner.Steps.{StopsAt}

-- a number that a name has is one of the job's suppliers
pub supplier_inside : (read : JobRead) (supplier : Name) (i : ℕ) → IsReadJob read → IsBook read.book → number_of read.book.suppliers supplier ≡ Some i → i < suppliers read.job
supplier_inside read supplier i facts book number =
    let inside = (position-Some (bytes_eq supplier) read.book.suppliers i [] number).0 in
    omega (arith, inside, book.suppliers, facts.suppliers)

pub some_number : (o : Option ℕ) (i : ℕ) → o ≡ Some i → IsSome o
some_number None i e = cc
some_number (Some n) i e = refl

-- a cut that was found
by_cut : (read : JobRead) (supplier : Name) (i : ℕ) (found : CutAnswer) (text : Bytes) → number_of read.book.suppliers supplier ≡ Some i → IsLeastCut read.job i found
    → text ≡ break_even_text supplier found → AnswersCut read supplier (cut_answer found) text
unfolding break_even_text
by_cut read supplier i NoPurchase text number least is = (least, some_number _ i number, is)
by_cut read supplier i (NoCut before) text number least is =
    ((least.0.0, least.0.1.0.feasible), record { i = i; is_supplier = number; answer = NoCut before; is_least = least; text_is = is })
by_cut read supplier i (Cut cut before after) text number least is =
    ((least.0.0, least.0.1.0.feasible), record { i = i; is_supplier = number; answer = Cut cut before after; is_least = least; text_is = is })

told_cut : (read : JobRead) (supplier : Name) (i : ℕ) (reply : Reply) → number_of read.book.suppliers supplier ≡ Some i → CutReply read.job i supplier reply
    → AnswersCut read supplier reply.answer reply.text.items
told_cut read supplier i reply number c =
    subst (λ (b : Answer). AnswersCut read supplier b reply.text.items) (sym c.answer_is) (by_cut read supplier i c.found reply.text.items number c.is_least c.text_is)

pub cut_told : (read : JobRead) (supplier : Name) (i : ℕ) (r : Result Reply NoMemory) → number_of read.book.suppliers supplier ≡ Some i → IfOk r (CutReply read.job i supplier)
    → IfOk r (λ reply. AnswersCut read supplier reply.answer reply.text.items)
cut_told read supplier i (Ok reply) number c = told_cut read supplier i reply number c
cut_told read supplier i (Err stop) number c = c

-- no supplier has the name
absent_told : (read : JobRead) (supplier : Name) (halt : NoValue) (reply : Reply) → HasNoSupplier read supplier → StopsAt (plainly NoSupplier) halt → ReplyWithoutValue halt (Ok reply)
    → AnswersCut read supplier reply.answer reply.text.items
absent_told read supplier (Bad fault text) reply none stops is =
    subst (λ (b : Answer). AnswersCut read supplier b reply.text.items) (sym is.0)
    (subst (λ (t : Bytes). AnswersCut read supplier (BadInput fault) t) (sym is.1) (none, sym stops))
absent_told read supplier (Unread file) reply none stops is = absurd stops
absent_told read supplier Memory reply none stops is = absurd is

pub no_supplier_told : (read : JobRead) (supplier : Name) (halt : NoValue) (r : Result Reply NoMemory) → HasNoSupplier read supplier → StopsAt (plainly NoSupplier) halt → ReplyWithoutValue halt r
    → IfOk r (λ reply. AnswersCut read supplier reply.answer reply.text.items)
no_supplier_told read supplier halt (Ok reply) none stops is = absent_told read supplier halt reply none stops is
no_supplier_told read supplier halt (Err stop) none stops is = tt
