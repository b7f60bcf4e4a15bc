-- From the reply and what was printed to the cause of the answer.
use Rattle.std.proofs.Common.{ℕ, ◌≡◌, Bool, List, Option, None, Some, take, sym, ◌∙◌, subst, inl, inr}
use Rattle.std.specs.Prelude.{Ok, Err, slice_index_or}
use Rattle.tqd_base.specs.World.{World, State, Name, Bytes, IsIdle, NeverFall, print, set_file}
use Rattle.plan_report.specs.declared.file.InputFile.{InputFile}
use Rattle.plan_report.specs.declared.file.InputFile.TheVariants.{Orders, Bill, Offers, Terms, Tree as TreeFile, Old, Scenario}
use Rattle.tqd_top.specs.declared.answer.Target.TheVariants.{Tree, Out}
use Rattle.tqd_top.specs.declared.answer.Answer.{Answer}
use Rattle.tqd_top.specs.declared.answer.Answer.TheVariants.{Solved, Infeasible, Accepted, AcceptedNone, Rejected, Listed, Words, BadInput, ReadFault, WriteFault, Memory}
use Rattle.tqd_top.specs.declared.answer.Reply.{Reply}
use Rattle.tqd_top.specs.declared.reading.OffersRead.{OffersRead}
use Rattle.tqd_top.specs.declared.answer.NoReply.TheVariants.{Tree as NoTree, Memory as WantsMemory}
use Rattle.command_words.specs.Words.{Asked, FilesNamed, ToBreakEven, ToCheck, ToCompare, ToMake, ToNeed, ToRequote, ToSolve, ToTabulate}
use Rattle.tqd_top.specs.Reads.{FailsAt}
use Rattle.tqd_top.specs.Unread.{FailsAtGiven, IsUnread, IsUnreadBill, IsUnreadScenarios, IsUnreadTerms, IsUnreadWithOld, IsUnreadWithTree, IsUnreadBy}
use Rattle.tqd_top.specs.SavedTree.{IsCutShort, saved}
use Rattle.tqd_top.specs.Causes.{FailsOnlyInputs}
use Rattle.tqd_top.specs.Output.{IsWant, IsWriteFault, IsCutOff, IsReply}
use Rattle.tqd_top.specs.Inner.Runs.{Replies, Grows, PrintGives}
use Rattle.tqd_top.proofs.Readings.{rose_before, rose_later}

-- the tree was saved, the output grew by the text of the answer, and nothing else of the world changed
pub record IsPrinted (absent_is_empty : Bool) (old new : State) (words : List Name) (answer : Answer) : Type 0 where
  pub text : Bytes
  pub between : World
  pub reply : IsReply absent_is_empty old new between words answer text
  pub world : new.world ≡ print between text

-- each answer with its cause, and what was printed and saved
abbrev pub HasCause : Bool → State → State → List Name → Answer → Type 0
HasCause absent_is_empty old new words (Solved plan amount) = IsPrinted absent_is_empty old new words (Solved plan amount)
HasCause absent_is_empty old new words Infeasible = IsPrinted absent_is_empty old new words Infeasible
HasCause absent_is_empty old new words (Accepted cost) = IsPrinted absent_is_empty old new words (Accepted cost)
HasCause absent_is_empty old new words AcceptedNone = IsPrinted absent_is_empty old new words AcceptedNone
HasCause absent_is_empty old new words (Rejected rejection) = IsPrinted absent_is_empty old new words (Rejected rejection)
HasCause absent_is_empty old new words Listed = IsPrinted absent_is_empty old new words Listed
HasCause absent_is_empty old new words Words = IsPrinted absent_is_empty old new words Words
HasCause absent_is_empty old new words (BadInput fault) = IsPrinted absent_is_empty old new words (BadInput fault)
HasCause absent_is_empty old new words (ReadFault file) = IsPrinted absent_is_empty old new words (ReadFault file)
HasCause absent_is_empty old new words (WriteFault Out) = IsWriteFault absent_is_empty old new words Out
HasCause absent_is_empty old new words (WriteFault Tree) = IsWriteFault absent_is_empty old new words Tree
HasCause absent_is_empty old new words Memory = IsWant absent_is_empty old new words

-- a reading fault that was found stands after the printing
fails_still : (old mid new : State) (name : Name) → NeverFall mid.faults new.faults → new.failed_last ≡ mid.failed_last → FailsAt old mid name → FailsAt old new name
fails_still old mid new name falls kept f = record {
  rose = rose_before old.faults.reading mid.faults.reading new.faults.reading f.rose falls.reading;
  named = λ told. kept ∙ f.named told;
}

given_still : (old mid new : State) (file : Option Name) → NeverFall mid.faults new.faults → new.failed_last ≡ mid.failed_last → FailsAtGiven old mid file → FailsAtGiven old new file
given_still old mid new file falls kept f = (f.0, f.1, fails_still old mid new f.0 falls kept f.2)

bill_still : (a : Bool) (old mid new : State) (orders : Name) (bill : Option Name) (file : InputFile) → NeverFall mid.faults new.faults → new.failed_last ≡ mid.failed_last
    → IsUnreadBill a old mid orders bill file → IsUnreadBill a old new orders bill file
bill_still a old mid new orders bill Orders falls kept f = fails_still old mid new orders falls kept f
bill_still a old mid new orders bill Bill falls kept f = (f.0, f.1, given_still old mid new bill falls kept f.2)
bill_still a old mid new orders bill Offers falls kept f = f
bill_still a old mid new orders bill Terms falls kept f = f
bill_still a old mid new orders bill TreeFile falls kept f = f
bill_still a old mid new orders bill Old falls kept f = f
bill_still a old mid new orders bill (Scenario at) falls kept f = f

files_still : (a : Bool) (old mid new : State) (files : FilesNamed) (file : InputFile) → NeverFall mid.faults new.faults → new.failed_last ≡ mid.failed_last
    → IsUnread a old mid files file → IsUnread a old new files file
files_still a old mid new files Orders falls kept f = fails_still old mid new files.orders falls kept f
files_still a old mid new files Bill falls kept f = (f.0, f.1, given_still old mid new files.bill falls kept f.2)
files_still a old mid new files Offers falls kept f = (f.0, f.1, fails_still old mid new files.offers falls kept f.2)
files_still a old mid new files Terms falls kept f = (f.0, f.1, given_still old mid new files.terms falls kept f.2)
files_still a old mid new files TreeFile falls kept f = f
files_still a old mid new files Old falls kept f = f
files_still a old mid new files (Scenario at) falls kept f = f

tree_still : (a : Bool) (old mid new : State) (files : FilesNamed) (tree : Name) (file : InputFile) → NeverFall mid.faults new.faults → new.failed_last ≡ mid.failed_last
    → IsUnreadWithTree a old mid files tree file → IsUnreadWithTree a old new files tree file
tree_still a old mid new files tree Orders falls kept f = files_still a old mid new files Orders falls kept f
tree_still a old mid new files tree Bill falls kept f = files_still a old mid new files Bill falls kept f
tree_still a old mid new files tree Offers falls kept f = files_still a old mid new files Offers falls kept f
tree_still a old mid new files tree Terms falls kept f = files_still a old mid new files Terms falls kept f
tree_still a old mid new files tree TreeFile falls kept f = (f.0, f.1, fails_still old mid new tree falls kept f.2)
tree_still a old mid new files tree Old falls kept f = f
tree_still a old mid new files tree (Scenario at) falls kept f = f

old_still : (a : Bool) (old mid new : State) (files : FilesNamed) (name : Name) (file : InputFile) → NeverFall mid.faults new.faults → new.failed_last ≡ mid.failed_last
    → IsUnreadWithOld a old mid files name file → IsUnreadWithOld a old new files name file
old_still a old mid new files name Orders falls kept f = files_still a old mid new files Orders falls kept f
old_still a old mid new files name Bill falls kept f = files_still a old mid new files Bill falls kept f
old_still a old mid new files name Offers falls kept f = files_still a old mid new files Offers falls kept f
old_still a old mid new files name Terms falls kept f = files_still a old mid new files Terms falls kept f
old_still a old mid new files name TreeFile falls kept f = f
old_still a old mid new files name Old falls kept f = (f.0, f.1, fails_still old mid new name falls kept f.2)
old_still a old mid new files name (Scenario at) falls kept f = f

terms_still : (a : Bool) (old mid new : State) (read : OffersRead) (terms : List (Option Name)) (file : InputFile) → NeverFall mid.faults new.faults → new.failed_last ≡ mid.failed_last
    → IsUnreadTerms a old mid read terms file → IsUnreadTerms a old new read terms file
terms_still a old mid new read terms file falls kept f =
    record { before = f.before; jobs = f.jobs; stated = f.stated; is_file = f.is_file; fails = given_still old mid new (slice_index_or terms f.before None) falls kept f.fails }

scenarios_still : (a : Bool) (old mid new : State) (files : FilesNamed) (terms : List (Option Name)) (file : InputFile) → NeverFall mid.faults new.faults → new.failed_last ≡ mid.failed_last
    → IsUnreadScenarios a old mid files terms file → IsUnreadScenarios a old new files terms file
scenarios_still a old mid new files terms Orders falls kept f = files_still a old mid new files Orders falls kept f
scenarios_still a old mid new files terms Bill falls kept f = files_still a old mid new files Bill falls kept f
scenarios_still a old mid new files terms Offers falls kept f = files_still a old mid new files Offers falls kept f
scenarios_still a old mid new files terms Terms falls kept f = f
scenarios_still a old mid new files terms TreeFile falls kept f = f
scenarios_still a old mid new files terms Old falls kept f = f
scenarios_still a old mid new files terms (Scenario at) falls kept f = (f.0, f.1, terms_still a old mid new f.0 terms (Scenario at) falls kept f.2)

unread_still : (a : Bool) (old mid new : State) (command : Asked) (file : InputFile) → NeverFall mid.faults new.faults → new.failed_last ≡ mid.failed_last
    → IsUnreadBy a old mid command file → IsUnreadBy a old new command file
unread_still a old mid new (ToSolve files tree workers) file falls kept f = files_still a old mid new files file falls kept f
unread_still a old mid new (ToCheck files tree) file falls kept f = tree_still a old mid new files tree file falls kept f
unread_still a old mid new (ToNeed orders bill) file falls kept f = bill_still a old mid new orders bill file falls kept f
unread_still a old mid new (ToMake seed goods suppliers) file falls kept f = f
unread_still a old mid new (ToRequote files name tree) file falls kept f = old_still a old mid new files name file falls kept f
unread_still a old mid new (ToCompare files terms workers) file falls kept f = scenarios_still a old mid new files terms file falls kept f
unread_still a old mid new (ToTabulate files workers) file falls kept f = files_still a old mid new files file falls kept f
unread_still a old mid new (ToBreakEven files supplier) file falls kept f = files_still a old mid new files file falls kept f

-- the rest of what was found speaks of the state before
reply_still : (a : Bool) (old mid new : State) (between : World) (words : List Name) (answer : Answer) (text : Bytes) → NeverFall mid.faults new.faults → new.failed_last ≡ mid.failed_last
    → IsReply a old mid between words answer text → IsReply a old new between words answer text
reply_still a old mid new between words (Solved plan amount) text falls kept f = f
reply_still a old mid new between words Infeasible text falls kept f = f
reply_still a old mid new between words (Accepted cost) text falls kept f = f
reply_still a old mid new between words AcceptedNone text falls kept f = f
reply_still a old mid new between words (Rejected rejection) text falls kept f = f
reply_still a old mid new between words Listed text falls kept f = f
reply_still a old mid new between words Words text falls kept f = f
reply_still a old mid new between words (BadInput fault) text falls kept f = f
reply_still a old mid new between words (ReadFault file) text falls kept f =
    (f.0, record { command = f.1.command; words_are = f.1.words_are; unread = unread_still a old mid new f.1.command file falls kept f.1.unread; text_is = f.1.text_is })
reply_still a old mid new between words (WriteFault target) text falls kept f = absurd f
reply_still a old mid new between words Memory text falls kept f = absurd f

printed : (a : Bool) (old new : State) (between : World) (words : List Name) (answer : Answer) (text : Bytes) → IsReply a old new between words answer text
    → new.world ≡ print between text → HasCause a old new words answer
printed a old new between words (Solved plan amount) text f w = record { text = text; between = between; reply = f; world = w }
printed a old new between words Infeasible text f w = record { text = text; between = between; reply = f; world = w }
printed a old new between words (Accepted cost) text f w = record { text = text; between = between; reply = f; world = w }
printed a old new between words AcceptedNone text f w = record { text = text; between = between; reply = f; world = w }
printed a old new between words (Rejected rejection) text f w = record { text = text; between = between; reply = f; world = w }
printed a old new between words Listed text f w = record { text = text; between = between; reply = f; world = w }
printed a old new between words Words text f w = record { text = text; between = between; reply = f; world = w }
printed a old new between words (BadInput fault) text f w = record { text = text; between = between; reply = f; world = w }
printed a old new between words (ReadFault file) text f w = record { text = text; between = between; reply = f; world = w }
printed a old new between words (WriteFault target) text f w = absurd f
printed a old new between words Memory text f w = absurd f

cut_off : (a : Bool) (old mid new : State) (words : List Name) (answer : Answer) (text : Bytes) → IsReply a old new mid.world words answer text → (count : ℕ) → Grows mid new text count → IsCutOff a old new words
cut_off a old mid new words answer text f count g =
    record { answer = answer; text = text; between = mid.world; reply = f; count = count; within = g.within; world = g.world }

-- the cause of an answer that was found, and then printed or not
pub cause_of : (a : Bool) (old mid new : State) (words : List Name) (reply : Reply) (result : Answer) → Replies a old mid words (Ok reply)
    → PrintGives mid new reply.answer reply.text.items result → HasCause a old new words result
cause_of a old mid new words reply result replies p =
    let still = reply_still a old mid new mid.world words reply.answer reply.text.items p.never_fall p.kept replies.gives in
    elim p.cases [
      | inl whole ↦ subst (HasCause a old new words) (sym whole.0) (printed a old new mid.world words reply.answer reply.text.items still whole.1.world)
      | inr cut ↦ elim cut [
        | inl fault ↦ subst (HasCause a old new words) (sym fault.0) (
          rose_later old.faults.printing mid.faults.printing new.faults.printing replies.quiet.never_fall.printing fault.1,
          cut_off a old mid new words reply.answer reply.text.items still fault.2.0 fault.2.1,
        )
        | inr memory ↦ subst (HasCause a old new words) (sym memory.0) (inr (inr (cut_off a old mid new words reply.answer reply.text.items still memory.1.0 memory.1.1)))
      ]
    ]

pub cause_of_tree : (a : Bool) (old new : State) (words : List Name) → Replies a old new words (Err NoTree) → HasCause a old new words (WriteFault Tree)
cause_of_tree a old new words replies = replies.gives

pub cause_of_memory : (a : Bool) (old new : State) (words : List Name) → Replies a old new words (Err WantsMemory) → HasCause a old new words Memory
cause_of_memory a old new words replies = elim replies.gives [ inl same ↦ inl same | inr lost ↦ inr (inl lost) ]

pub inputs_of : (old mid new : State) (words : List Name) → FailsOnlyInputs old mid words → new.failed_last ≡ mid.failed_last → FailsOnlyInputs old new words
inputs_of old mid new words q kept = λ told. elim (q told) [
  | inl same ↦ inl (kept ∙ same)
  | inr one ↦ inr (one.0, one.1, kept ∙ one.2)
]

-- saving and printing open no slot
idle_file : (w : World) (name bytes : Bytes) → IsIdle w → IsIdle (set_file w name bytes)
unfolding IsIdle set_file
idle_file w name bytes idle = idle

idle_saved : (w : World) (file : Option Name) (bytes : Bytes) → IsIdle w → IsIdle (saved w file bytes)
unfolding saved
idle_saved w None bytes idle = idle
idle_saved w (Some name) bytes idle = idle_file w name bytes idle

idle_printed : (w : World) (text : Bytes) → IsIdle w → IsIdle (print w text)
unfolding IsIdle print
idle_printed w text idle = idle

idle_cut : (old new : World) (name : Name) (text : Bytes) → IsCutShort old new name text → IsIdle old → IsIdle new
idle_cut old new name text (inl same) idle = subst IsIdle (sym same) idle
idle_cut old new name text (inr cut) idle = subst IsIdle (sym cut.2) (idle_file old name (take cut.0 text) idle)

idle_reply : (a : Bool) (old new : State) (between : World) (words : List Name) (answer : Answer) (text : Bytes) → IsReply a old new between words answer text → IsIdle old.world → IsIdle between
idle_reply a old new between words (Solved plan amount) text f idle = subst IsIdle (sym f.solved.saves) (idle_saved old.world f.tree f.solved.certificate idle)
idle_reply a old new between words Infeasible text f idle = elim f [
  | inl solved ↦ subst IsIdle (sym solved.solved.saves) (idle_saved old.world solved.tree solved.solved.certificate idle)
  | inr cut ↦ subst IsIdle (sym cut.0) idle
]
idle_reply a old new between words (Accepted cost) text f idle = subst IsIdle (sym f.0) idle
idle_reply a old new between words AcceptedNone text f idle = subst IsIdle (sym f.0) idle
idle_reply a old new between words (Rejected rejection) text f idle = subst IsIdle (sym f.0) idle
idle_reply a old new between words Listed text f idle = subst IsIdle (sym f.0) idle
idle_reply a old new between words Words text f idle = subst IsIdle (sym f.0) idle
idle_reply a old new between words (BadInput fault) text f idle = subst IsIdle (sym f.0) idle
idle_reply a old new between words (ReadFault file) text f idle = subst IsIdle (sym f.0) idle
idle_reply a old new between words (WriteFault target) text f idle = absurd f
idle_reply a old new between words Memory text f idle = absurd f

idle_answer : (mid new : State) (answer result : Answer) (text : Bytes) → PrintGives mid new answer text result → IsIdle mid.world → IsIdle new.world
idle_answer mid new answer result text p idle = elim p.cases [
  | inl whole ↦ subst IsIdle (sym whole.1.world) (idle_printed mid.world text idle)
  | inr cut ↦ elim cut [
    | inl fault ↦ subst IsIdle (sym fault.2.1.world) (idle_printed mid.world (take fault.2.0 text) idle)
    | inr memory ↦ subst IsIdle (sym memory.1.1.world) (idle_printed mid.world (take memory.1.0 text) idle)
  ]
]

pub idle_after : (a : Bool) (old mid new : State) (words : List Name) (reply : Reply) (result : Answer) → Replies a old mid words (Ok reply)
    → PrintGives mid new reply.answer reply.text.items result → IsIdle old.world → IsIdle new.world
idle_after a old mid new words reply result replies p idle =
    idle_answer mid new reply.answer result reply.text.items p (idle_reply a old mid mid.world words reply.answer reply.text.items replies.gives idle)

pub idle_tree : (a : Bool) (old new : State) (words : List Name) → Replies a old new words (Err NoTree) → IsIdle old.world → IsIdle new.world
idle_tree a old new words replies idle =
    let lost = replies.gives.1.cut in
    idle_cut old.world new.world lost.cut.0 lost.certificate lost.cut.2 idle

pub idle_memory : (a : Bool) (old new : State) (words : List Name) → Replies a old new words (Err WantsMemory) → IsIdle old.world → IsIdle new.world
idle_memory a old new words replies idle = elim replies.gives [
  | inl same ↦ subst IsIdle (sym same) idle
  | inr lost ↦ idle_cut old.world new.world lost.cut.cut.0 lost.cut.certificate lost.cut.cut.2 idle
]
