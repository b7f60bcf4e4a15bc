-- Which answers come where no count of faults rises, and where the words are of no form.
use Rattle.std.proofs.Common.{ℕ, ◌≡◌, ◌<◌, ◌≤◌, Bool, List, [], length, Option, None, Some, refl, sym, ◌∙◌, ap, subst, inl, inr}
use Rattle.std.specs.Prelude.{Ok, Err, IsSome, IfSome, unwrap_or}
use Rattle.tqd_base.specs.World.{World, State, Name, Bytes, bytes_at}
use Rattle.tqd_instance.specs.declared.job.Job.{Job}
use Rattle.tqd_instance.specs.Plan.{units}
use Rattle.tqd_instance.specs.Least.{Least, HasNoPurchase}
use Rattle.tree_checker.specs.declared.rejection.Verdict.{Verdict}
use Rattle.tree_checker.specs.Verdict.{verdict}
use Rattle.tree_checker.specs.CheckFrom.{IsTooLong}
use Rattle.tqd_top.specs.declared.answer.Target.TheVariants.{Tree, Out}
use Rattle.tqd_top.specs.declared.answer.Answer.{Answer}
use Rattle.tqd_top.specs.declared.answer.Answer.TheVariants.{Solved, Infeasible, Accepted, AcceptedNone, Rejected, Listed, Words, BadInput, ReadFault, WriteFault, Memory}
use Rattle.tqd_top.specs.declared.reading.NeedsRead.{NeedsRead}
use Rattle.tqd_top.specs.declared.reading.JobRead.{JobRead}
use Rattle.command_words.specs.Words.{FilesNamed, IsNoForm, ToBreakEven, ToCheck, ToCompare, ToMake, ToNeed, ToRequote, ToSolve, ToTabulate}
use Rattle.tqd_top.specs.JobOf.{JobOf, NeedsOf, Outcome, FaultLine}
use Rattle.tqd_top.specs.Scenarios.{ScenariosOf}
use Rattle.tqd_top.specs.Requotes.{IsOldText}
use Rattle.requote.specs.declared.replanting.TheConstants.{OLD_MAX}
use Rattle.tqd_top.specs.Reads.{ReadsAs}
use Rattle.tqd_top.specs.Shows.{Shows}
use Rattle.tqd_top.specs.Complete.{IsAnswerToCheck, IsAnswerToCompare, IsAnswerToCut, IsAnswerToMake, IsAnswerToNeeds, IsAnswerToNoForm, IsAnswerToOld, IsAnswerToRequote, IsAnswerToSolve, IsAnswerToTable, IsAnswerToText}
use Rattle.tqd_top.proofs.Causes.{HasCause}
use Rattle.tqd_top.proofs.Commands.{IsRequoted, IsShown, Means, not_none, seeks_some}
use Rattle.tqd_top.proofs.Cuts.{some_number}
use Rattle.tqd_top.proofs.Readings.{mapped, same_bytes}

-- `solve`
solve_memory : (outcome : Outcome JobRead) → IsAnswerToSolve outcome Memory
solve_memory (Ok read) = tt
solve_memory (Err told) = tt

pub answers_solve : (a : Bool) (w : World) (files : FilesNamed) (tree : Option Name) (workers : ℕ) (outcome : Outcome JobRead) (answer : Answer) → IsSome w.files → JobOf a w files outcome
    → Means a w (ToSolve files tree workers) answer → IsAnswerToSolve outcome answer
answers_solve a w files tree workers outcome (Solved plan amount) told given m =
    subst (λ (o : Outcome JobRead). IsAnswerToSolve o (Solved plan amount)) (sym (m.1.alone told outcome given)) m.2
answers_solve a w files tree workers outcome Infeasible told given m = subst (λ (o : Outcome JobRead). IsAnswerToSolve o Infeasible) (sym (m.1.alone told outcome given)) m.2
answers_solve a w files tree workers outcome (Accepted cost) told given m = absurd m
answers_solve a w files tree workers outcome AcceptedNone told given m = absurd m
answers_solve a w files tree workers outcome (Rejected rejection) told given m = absurd m
answers_solve a w files tree workers outcome Listed told given m = absurd m.1
answers_solve a w files tree workers outcome Words told given m = absurd m
answers_solve a w files tree workers outcome (BadInput fault) told given m =
    subst (λ (o : Outcome JobRead). IsAnswerToSolve o (BadInput fault)) (sym (m.1.alone told outcome given)) refl
answers_solve a w files tree workers outcome (ReadFault file) told given m = absurd m
answers_solve a w files tree workers outcome (WriteFault target) told given m = absurd m
answers_solve a w files tree workers outcome Memory told given m = solve_memory outcome

-- `needs`
needs_memory : (outcome : Outcome NeedsRead) → IsAnswerToNeeds outcome Memory
needs_memory (Ok read) = tt
needs_memory (Err told) = tt

pub answers_needs : (a : Bool) (w : World) (orders : Name) (bill : Option Name) (outcome : Outcome NeedsRead) (answer : Answer) → IsSome w.files → NeedsOf a w orders bill outcome
    → Means a w (ToNeed orders bill) answer → IsAnswerToNeeds outcome answer
answers_needs a w orders bill outcome (Solved plan amount) told given m = absurd m
answers_needs a w orders bill outcome Infeasible told given m = absurd m
answers_needs a w orders bill outcome (Accepted cost) told given m = absurd m
answers_needs a w orders bill outcome AcceptedNone told given m = absurd m
answers_needs a w orders bill outcome (Rejected rejection) told given m = absurd m
answers_needs a w orders bill outcome Listed told given m = subst (λ (o : Outcome NeedsRead). IsAnswerToNeeds o Listed) (sym (m.1.stated.alone told outcome given)) tt
answers_needs a w orders bill outcome Words told given m = absurd m
answers_needs a w orders bill outcome (BadInput fault) told given m =
    subst (λ (o : Outcome NeedsRead). IsAnswerToNeeds o (BadInput fault)) (sym (m.1.alone told outcome given)) refl
answers_needs a w orders bill outcome (ReadFault file) told given m = absurd m
answers_needs a w orders bill outcome (WriteFault target) told given m = absurd m
answers_needs a w orders bill outcome Memory told given m = needs_memory outcome

-- a `make` reads no file
pub answers_make : (a : Bool) (w : World) (seed goods suppliers : ℕ) (answer : Answer) → Means a w (ToMake seed goods suppliers) answer → IsAnswerToMake answer
answers_make a w seed goods suppliers (Solved plan amount) m = m
answers_make a w seed goods suppliers Infeasible m = m
answers_make a w seed goods suppliers (Accepted cost) m = m
answers_make a w seed goods suppliers AcceptedNone m = m
answers_make a w seed goods suppliers (Rejected rejection) m = m
answers_make a w seed goods suppliers Listed m = tt
answers_make a w seed goods suppliers Words m = m
answers_make a w seed goods suppliers (BadInput fault) m = m.1
answers_make a w seed goods suppliers (ReadFault file) m = m
answers_make a w seed goods suppliers (WriteFault target) m = absurd m
answers_make a w seed goods suppliers Memory m = tt

-- `scenarios`
compare_memory : (outcome : Outcome (List Job)) → IsAnswerToCompare outcome Memory
compare_memory (Ok jobs) = tt
compare_memory (Err told) = tt

pub answers_compare : (a : Bool) (w : World) (files : FilesNamed) (terms : List (Option Name)) (workers : ℕ) (outcome : Outcome (List Job)) (answer : Answer) → IsSome w.files
    → ScenariosOf a w files terms outcome → Means a w (ToCompare files terms workers) answer → IsAnswerToCompare outcome answer
answers_compare a w files terms workers outcome (Solved plan amount) told given m = absurd m
answers_compare a w files terms workers outcome Infeasible told given m = absurd m
answers_compare a w files terms workers outcome (Accepted cost) told given m = absurd m
answers_compare a w files terms workers outcome AcceptedNone told given m = absurd m
answers_compare a w files terms workers outcome (Rejected rejection) told given m = absurd m
answers_compare a w files terms workers outcome Listed told given m =
    subst (λ (o : Outcome (List Job)). IsAnswerToCompare o Listed) (sym (m.1.stated.alone told outcome given)) tt
answers_compare a w files terms workers outcome Words told given m = absurd m
answers_compare a w files terms workers outcome (BadInput fault) told given m =
    subst (λ (o : Outcome (List Job)). IsAnswerToCompare o (BadInput fault)) (sym (m.1.alone told outcome given)) refl
answers_compare a w files terms workers outcome (ReadFault file) told given m = absurd m
answers_compare a w files terms workers outcome (WriteFault target) told given m = absurd m
answers_compare a w files terms workers outcome Memory told given m = compare_memory outcome

-- `winners`
table_memory : (outcome : Outcome JobRead) → IsAnswerToTable outcome Memory
table_memory (Ok read) = tt
table_memory (Err told) = tt

pub answers_table : (a : Bool) (w : World) (files : FilesNamed) (workers : ℕ) (outcome : Outcome JobRead) (answer : Answer) → IsSome w.files → JobOf a w files outcome
    → Means a w (ToTabulate files workers) answer → IsAnswerToTable outcome answer
answers_table a w files workers outcome (Solved plan amount) told given m = absurd m
answers_table a w files workers outcome Infeasible told given m = absurd m
answers_table a w files workers outcome (Accepted cost) told given m = absurd m
answers_table a w files workers outcome AcceptedNone told given m = absurd m
answers_table a w files workers outcome (Rejected rejection) told given m = absurd m
answers_table a w files workers outcome Listed told given m = subst (λ (o : Outcome JobRead). IsAnswerToTable o Listed) (sym (m.1.stated.alone told outcome given)) tt
answers_table a w files workers outcome Words told given m = absurd m
answers_table a w files workers outcome (BadInput fault) told given m =
    subst (λ (o : Outcome JobRead). IsAnswerToTable o (BadInput fault)) (sym (m.1.alone told outcome given)) refl
answers_table a w files workers outcome (ReadFault file) told given m = absurd m
answers_table a w files workers outcome (WriteFault target) told given m = absurd m
answers_table a w files workers outcome Memory told given m = table_memory outcome

-- `break-even`
cut_memory : (supplier : Name) (outcome : Outcome JobRead) → IsAnswerToCut supplier outcome Memory
cut_memory supplier (Ok read) = tt
cut_memory supplier (Err told) = tt

pub answers_cut : (a : Bool) (w : World) (files : FilesNamed) (supplier : Name) (outcome : Outcome JobRead) (answer : Answer) → IsSome w.files → JobOf a w files outcome
    → Means a w (ToBreakEven files supplier) answer → IsAnswerToCut supplier outcome answer
answers_cut a w files supplier outcome (Solved plan amount) told given m = absurd m
answers_cut a w files supplier outcome Infeasible told given m =
    let c = m.1 in
    subst (λ (o : Outcome JobRead). IsAnswerToCut supplier o Infeasible) (sym (c.stated.alone told outcome given)) (c.answers.0, c.answers.1)
answers_cut a w files supplier outcome (Accepted cost) told given m = absurd m
answers_cut a w files supplier outcome AcceptedNone told given m = absurd m
answers_cut a w files supplier outcome (Rejected rejection) told given m = absurd m
answers_cut a w files supplier outcome Listed told given m =
    let c = m.1 in
    subst (λ (o : Outcome JobRead). IsAnswerToCut supplier o Listed) (sym (c.stated.alone told outcome given)) (c.answers.0, some_number _ c.answers.1.i c.answers.1.is_supplier)
answers_cut a w files supplier outcome Words told given m = absurd m
answers_cut a w files supplier outcome (BadInput fault) told given m = elim m.1 [
  | inl stated ↦ subst (λ (o : Outcome JobRead). IsAnswerToCut supplier o (BadInput fault)) (sym (stated.alone told outcome given)) refl
  | inr c ↦ subst (λ (o : Outcome JobRead). IsAnswerToCut supplier o (BadInput fault)) (sym (c.stated.alone told outcome given))
      (c.answers.0, ap (λ (t : FaultLine). t.fault) c.answers.1)
]
answers_cut a w files supplier outcome (ReadFault file) told given m = absurd m
answers_cut a w files supplier outcome (WriteFault target) told given m = absurd m
answers_cut a w files supplier outcome Memory told given m = cut_memory supplier outcome

-- words of no form have no other answer
pub answers_no_form : (a : Bool) (old new : State) (words : List Name) (answer : Answer) → IsNoForm words → HasCause a old new words answer → IsAnswerToNoForm answer
answers_no_form a old new words (Solved plan amount) none c =
    let s = c.reply in
    seeks_some a old.world words s.files s.tree s.from s.seeks none
answers_no_form a old new words Infeasible none c = elim c.reply [
  | inl s ↦ seeks_some a old.world words s.files s.tree s.from s.seeks none
  | inr cut ↦ not_none words _ cut.1.is_break_even.words_are none
]
answers_no_form a old new words (Accepted cost) none c = not_none words _ c.reply.1.is_check.words_are none
answers_no_form a old new words AcceptedNone none c = not_none words _ c.reply.1.is_check.words_are none
answers_no_form a old new words (Rejected rejection) none c = not_none words _ c.reply.1.is_check.words_are none
answers_no_form a old new words Listed none c = not_none words _ c.reply.1.words_are none
answers_no_form a old new words Words none c = tt
answers_no_form a old new words (BadInput fault) none c = not_none words _ c.reply.1.words_are none
answers_no_form a old new words (ReadFault file) none c = not_none words _ c.reply.1.words_are none
answers_no_form a old new words (WriteFault Out) none c = tt
answers_no_form a old new words (WriteFault Tree) none c =
    let s = c.1 in
    seeks_some a old.world words s.files s.tree s.from s.seeks none
answers_no_form a old new words Memory none c = tt

-- `check`
text_memory : (a : Bool) (w : World) (tree : Name) (outcome : Outcome JobRead) → IsAnswerToCheck a w tree outcome Memory
text_memory a w tree (Ok read) = λ text reads. tt
text_memory a w tree (Err told) = tt

-- what the text of the tree shows is the verdict of each reading of it
shown_text : (a : Bool) (w : World) (tree : Name) (job : Job) (shown : Verdict) (text : Bytes) → IsSome w.files → Shows a w tree job shown → ReadsAs a w tree text → verdict job text ≡ shown
shown_text a w tree job shown text told s reads = ap (verdict job) (same_bytes a w tree text s.text told reads s.reads) ∙ sym s.is_verdict

shown_answer : (a : Bool) (w : World) (files : FilesNamed) (tree : Name) (outcome : Outcome JobRead) (answer : Answer) → IsSome w.files → JobOf a w files outcome
    → (m : IsShown a w files tree answer) → ((text : Bytes) → verdict m.read.job text ≡ m.shown → IsAnswerToText m.read.job text answer) → IsAnswerToCheck a w tree outcome answer
shown_answer a w files tree outcome answer told given m says =
    subst (λ (o : Outcome JobRead). IsAnswerToCheck a w tree o answer) (sym (m.stated.alone told outcome given))
    (λ text reads. says text (shown_text a w tree m.read.job m.shown text told m.shows reads))

-- what holds of a file holds of what is read of it
of_text : (o : Option Bytes) (P : Bytes → Type 0) (text : Bytes) → IsSome o → IfSome o (λ file. text ≡ file) → IfSome o P → P text
of_text None P text some reads holds = cc
of_text (Some file) P text some reads holds = subst P (sym reads) holds

told_bytes : (w : World) (name : Name) → IsSome w.files → IsSome (bytes_at w name)
unfolding bytes_at
told_bytes w name told = mapped (λ files. unwrap_or (files name) []) w.files told

pub answers_check : (a : Bool) (w : World) (files : FilesNamed) (tree : Name) (outcome : Outcome JobRead) (answer : Answer) → IsSome w.files → JobOf a w files outcome
    → Means a w (ToCheck files tree) answer → IsAnswerToCheck a w tree outcome answer
answers_check a w files tree outcome (Solved plan amount) told given m = absurd m
answers_check a w files tree outcome Infeasible told given m = absurd m
answers_check a w files tree outcome (Accepted cost) told given m = shown_answer a w files tree outcome (Accepted cost) told given m (λ text e. e ∙ m.answers.0)
answers_check a w files tree outcome AcceptedNone told given m = shown_answer a w files tree outcome AcceptedNone told given m (λ text e. e ∙ m.answers.0)
answers_check a w files tree outcome (Rejected rejection) told given m = shown_answer a w files tree outcome (Rejected rejection) told given m (λ text e. e ∙ m.answers.0)
answers_check a w files tree outcome Listed told given m = absurd m.1
answers_check a w files tree outcome Words told given m = absurd m
answers_check a w files tree outcome (BadInput fault) told given m = elim m.1 [
  | inl stated ↦ subst (λ (o : Outcome JobRead). IsAnswerToCheck a w tree o (BadInput fault)) (sym (stated.alone told outcome given)) refl
  | inr long ↦ subst (λ (o : Outcome JobRead). IsAnswerToCheck a w tree o (BadInput fault)) (sym (long.stated.alone told outcome given))
      (λ text reads. (ap (λ (t : FaultLine). t.fault) long.told_is, of_text (bytes_at w tree) (IsTooLong long.read.job) text (told_bytes w tree told) reads.all long.long.beyond))
]
answers_check a w files tree outcome (ReadFault file) told given m = absurd m
answers_check a w files tree outcome (WriteFault target) told given m = absurd m
answers_check a w files tree outcome Memory told given m = text_memory a w tree outcome

-- `requote`
requote_memory : (a : Bool) (w : World) (name : Name) (outcome : Outcome JobRead) → IsAnswerToRequote a w name outcome Memory
requote_memory a w name (Ok read) = λ text reads. tt
requote_memory a w name (Err told) = tt

-- each reading of the old tree is the text that is not too long
old_within : (a : Bool) (w : World) (name : Name) (text found : Bytes) → IsSome w.files → IsOldText a w name found → ReadsAs a w name text → length text ≤ OLD_MAX
old_within a w name text found told old reads = subst (λ (b : Bytes). length b ≤ OLD_MAX) (sym (same_bytes a w name text found told reads old.reads)) old.within

requoted_answer : (a : Bool) (w : World) (files : FilesNamed) (name : Name) (Says : Job → Type 0) (outcome : Outcome JobRead) (answer : Answer) → IsSome w.files → JobOf a w files outcome
    → (m : IsRequoted a w files name Says) → ((text : Bytes) → length text ≤ OLD_MAX → IsAnswerToOld m.read.job text answer) → IsAnswerToRequote a w name outcome answer
requoted_answer a w files name Says outcome answer told given m says =
    subst (λ (o : Outcome JobRead). IsAnswerToRequote a w name o answer) (sym (m.stated.alone told outcome given))
    (λ text reads. says text (old_within a w name text m.text told m.is_old reads))

pub answers_requote : (a : Bool) (w : World) (files : FilesNamed) (name : Name) (tree : Option Name) (outcome : Outcome JobRead) (answer : Answer) → IsSome w.files → JobOf a w files outcome
    → Means a w (ToRequote files name tree) answer → IsAnswerToRequote a w name outcome answer
answers_requote a w files name tree outcome (Solved plan amount) told given m = requoted_answer a w files name (λ (job : Job). Least job (units plan)) outcome (Solved plan amount) told given m (λ text within. (m.says, within))
answers_requote a w files name tree outcome Infeasible told given m = requoted_answer a w files name HasNoPurchase outcome Infeasible told given m (λ text within. (m.says, within))
answers_requote a w files name tree outcome (Accepted cost) told given m = absurd m
answers_requote a w files name tree outcome AcceptedNone told given m = absurd m
answers_requote a w files name tree outcome (Rejected rejection) told given m = absurd m
answers_requote a w files name tree outcome Listed told given m = absurd m.1
answers_requote a w files name tree outcome Words told given m = absurd m
answers_requote a w files name tree outcome (BadInput fault) told given m = elim m.1 [
  | inl stated ↦ subst (λ (o : Outcome JobRead). IsAnswerToRequote a w name o (BadInput fault)) (sym (stated.alone told outcome given)) refl
  | inr long ↦ subst (λ (o : Outcome JobRead). IsAnswerToRequote a w name o (BadInput fault)) (sym (long.stated.alone told outcome given))
      (λ text reads. (
        ap (λ (t : FaultLine). t.fault) long.told_is,
        of_text (bytes_at w name) (λ (b : Bytes). OLD_MAX < length b) text (told_bytes w name told) reads.all long.long.beyond,
      ))
]
answers_requote a w files name tree outcome (ReadFault file) told given m = absurd m
answers_requote a w files name tree outcome (WriteFault target) told given m = absurd m
answers_requote a w files name tree outcome Memory told given m = requote_memory a w name outcome
