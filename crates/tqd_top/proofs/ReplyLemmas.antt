-- From what the steps of a command gave to the reply to the words.
use Rattle.std.proofs.Common.{ℕ, ◌≡◌, ◌⊎◌, ◌≤◌, Bool, List, length, get_or, Option, None, Some, refl, sym, ◌∙◌, subst, inl, inr, arith}
use Rattle.std.proofs.Math.ListN.{get_or-eq_default}
use Rattle.std.proofs.lemmas.Bool.{cases_order}
use Rattle.std.proofs.lemmas.List.Elements.{Contains-get_or}
use Rattle.std.specs.Prelude.{Result, Ok, Err, Contains, IsSome, IfOk}
use Rattle.std.specs.Result.{ForOk}
use Rattle.scenarios.specs.declared.costs.CostList.{CostList}
use Rattle.scenarios.specs.Costs.{AreCosts}
use Rattle.tqd_base.specs.declared.memory.Memory.{Memory as NoMemory}
use Rattle.tqd_base.specs.World.{World, State, Name, Bytes, IsIdle}
use Rattle.tqd_base.specs.Calls.{Rests}
use Rattle.plan_report.specs.declared.file.InputFile.{InputFile}
use Rattle.plan_report.specs.declared.file.InputFile.TheVariants.{Orders, Bill, Offers, Terms, Tree as TreeFile, Old, Scenario}
use Rattle.plan_report.specs.FaultText.{unread_text}
use Rattle.plan_report.specs.NeedsText.{needs_text}
use Rattle.tqd_top.specs.declared.no_value.NoValue.{NoValue}
use Rattle.tqd_top.specs.declared.no_value.NoValue.TheVariants.{Bad, Unread, Memory as WantsMemoryToo}
use Rattle.tqd_top.specs.declared.answer.NoReply.{NoReply}
use Rattle.tqd_top.specs.declared.answer.NoReply.TheVariants.{Tree as NoTree, Memory as WantsMemory}
use Rattle.tqd_top.specs.declared.answer.Reply.{Reply}
use Rattle.tqd_top.specs.declared.answer.Answer.{Answer}
use Rattle.tqd_top.specs.declared.answer.Answer.TheVariants.{Solved, Infeasible, Accepted, AcceptedNone, Rejected, Listed, Words, BadInput, ReadFault, WriteFault, Memory}
use Rattle.tqd_instance.specs.declared.job.Job.{Job}
use Rattle.tqd_top.specs.declared.reading.NeedsRead.{NeedsRead}
use Rattle.tqd_top.specs.declared.reading.JobRead.{JobRead}
use Rattle.command_words.specs.Words.{Asked, FilesNamed, IsFileOf, IsReadBy, ToBreakEven, ToCheck, ToCompare, ToMake, ToNeed, ToRequote, ToSolve, ToTabulate, command_of}
use Rattle.tqd_top.specs.Reads.{FailsAt}
use Rattle.tqd_top.specs.JobOf.{JobOf, NeedsOf, IsJobOutcome, IsNeedsOutcome}
use Rattle.tqd_top.specs.Scenarios.{IsScenariosOutcome, ScenariosOf}
use Rattle.tqd_top.specs.Requotes.{IsOldText, Seeks}
use Rattle.requote.specs.declared.replanting.TheConstants.{OLD_MAX}
use Rattle.tqd_base.specs.ReadAll.{IsTooLong}
use Rattle.tqd_top.specs.Reads.{ReadsAs}
use Rattle.tqd_top.specs.declared.old_tree.RequoteRead.{RequoteRead}
use Rattle.tqd_top.specs.Unread.{IsUnread, IsUnreadBill, IsUnreadScenarios, IsUnreadWithOld, IsUnreadWithTree, IsUnreadBy}
use Rattle.tqd_top.specs.Inner.Steps.{InputGives, ReadGives}
use Rattle.tqd_top.specs.Solves.{IsCut, IsSolved}
use Rattle.tqd_top.specs.Inner.Solving.{SolveGives}
use Rattle.tqd_top.specs.Causes.{FailsOnlyInputs}
use Rattle.tqd_top.specs.Output.{IsReply, IsTreeCut}
use Rattle.tqd_top.specs.Inner.Runs.{Checks, IsRequoteRead, Replies, ReplyWithoutValue, RequoteGives, StopsBy, IsQuiet, PlainReplies, VerdictGives, or_no_reply}
use Rattle.tqd_top.specs.Inner.Saving.{IsSteady}
use Rattle.tqd_top.specs.MakeAnswer.{SumsUp}
use Rattle.tqd_top.specs.BreakEven.{AnswersCut}
use Rattle.tqd_top.specs.Listed.{AreCostsTold, IsTableText}
use Rattle.tqd_base.proofs.DeskLemmas.{same_faults}
use Rattle.tree_checker.specs.declared.rejection.Verdict.{Verdict}
use Rattle.tqd_top.specs.Inner.Checking.{CheckFileGives}
use Rattle.tqd_top.specs.Shows.{IsLongTree, Shows, VerdictAnswer}
use Rattle.tqd_top.proofs.Readings.{fails_later, falls_never, rests_then, rose_later, still_then}

-- where reading failed, the name that failed is one that the command reads
named_given : (old new : State) (file : Option Name) (name : Name) → file ≡ Some name → FailsAt old new name → IsSome old.world.files → (Some name ≡ file) × (new.failed_last ≡ Some name)
named_given old new file name given f told = (sym given, f.named told)

bill_input : (a : Bool) (old new : State) (orders : Name) (bill : Option Name) (file : InputFile) → IsUnreadBill a old new orders bill file → IsSome old.world.files
    → (name : Name) × ((name ≡ orders) ⊎ (Some name ≡ bill)) × (new.failed_last ≡ Some name)
bill_input a old new orders bill Orders f told = (orders, inl refl, f.named told)
bill_input a old new orders bill Bill f told = (f.2.0, inr (sym f.2.1), f.2.2.named told)
bill_input a old new orders bill Offers f told = absurd f
bill_input a old new orders bill Terms f told = absurd f
bill_input a old new orders bill TreeFile f told = absurd f
bill_input a old new orders bill Old f told = absurd f
bill_input a old new orders bill (Scenario at) f told = absurd f

file_input : (a : Bool) (old new : State) (files : FilesNamed) (file : InputFile) → IsUnread a old new files file → IsSome old.world.files
    → (name : Name) × IsFileOf files name × (new.failed_last ≡ Some name)
file_input a old new files Orders f told = (files.orders, inl refl, f.named told)
file_input a old new files Bill f told = (f.2.0, inr (inl (sym f.2.1)), f.2.2.named told)
file_input a old new files Offers f told = (files.offers, inr (inr (inl refl)), f.2.named told)
file_input a old new files Terms f told = (f.2.0, inr (inr (inr (sym f.2.1))), f.2.2.named told)
file_input a old new files TreeFile f told = absurd f
file_input a old new files Old f told = absurd f
file_input a old new files (Scenario at) f told = absurd f

tree_input : (a : Bool) (old new : State) (files : FilesNamed) (tree : Name) (file : InputFile) → IsUnreadWithTree a old new files tree file → IsSome old.world.files
    → (name : Name) × (IsFileOf files name ⊎ (name ≡ tree)) × (new.failed_last ≡ Some name)
tree_input a old new files tree Orders f told = let named = file_input a old new files Orders f told in (named.0, inl named.1, named.2)
tree_input a old new files tree Bill f told = let named = file_input a old new files Bill f told in (named.0, inl named.1, named.2)
tree_input a old new files tree Offers f told = let named = file_input a old new files Offers f told in (named.0, inl named.1, named.2)
tree_input a old new files tree Terms f told = let named = file_input a old new files Terms f told in (named.0, inl named.1, named.2)
tree_input a old new files tree TreeFile f told = (tree, inr refl, f.2.named told)
tree_input a old new files tree Old f told = absurd f
tree_input a old new files tree (Scenario at) f told = absurd f

old_input : (a : Bool) (old new : State) (files : FilesNamed) (given : Name) (file : InputFile) → IsUnreadWithOld a old new files given file → IsSome old.world.files
    → (name : Name) × (IsFileOf files name ⊎ (name ≡ given)) × (new.failed_last ≡ Some name)
old_input a old new files given Orders f told = let named = file_input a old new files Orders f told in (named.0, inl named.1, named.2)
old_input a old new files given Bill f told = let named = file_input a old new files Bill f told in (named.0, inl named.1, named.2)
old_input a old new files given Offers f told = let named = file_input a old new files Offers f told in (named.0, inl named.1, named.2)
old_input a old new files given Terms f told = let named = file_input a old new files Terms f told in (named.0, inl named.1, named.2)
old_input a old new files given TreeFile f told = absurd f
old_input a old new files given Old f told = (given, inr refl, f.2.named told)
old_input a old new files given (Scenario at) f told = absurd f

-- a word that names a file is one of the words
no_name : (name : Name) → ◌≡◌ {A = Option Name} None (Some name) → ⊥
no_name name e = cc

none_given : (terms : List (Option Name)) (n : ℕ) (name : Name) → length terms ≤ n → get_or terms n None ≡ Some name → ⊥
none_given terms n name outside given = no_name name (sym (get_or-eq_default terms None outside) ∙ given)

word_given : (terms : List (Option Name)) (n : ℕ) (name : Name) → get_or terms n None ≡ Some name → Contains terms (Some name)
word_given terms n name given = elim (cases_order n (length terms)) [
  | inl same ↦ absurd (none_given terms n name (omega (arith, same)) given)
  | inr differ ↦ elim differ [
    | inl less ↦ subst (Contains terms) given (Contains-get_or terms n None less)
    | inr more ↦ absurd (none_given terms n name (omega (arith, more)) given)
  ]
]

scenarios_input : (a : Bool) (old new : State) (files : FilesNamed) (terms : List (Option Name)) (file : InputFile) → IsUnreadScenarios a old new files terms file → IsSome old.world.files
    → (name : Name) × (IsFileOf files name ⊎ Contains terms (Some name)) × (new.failed_last ≡ Some name)
scenarios_input a old new files terms Orders f told = let named = file_input a old new files Orders f told in (named.0, inl named.1, named.2)
scenarios_input a old new files terms Bill f told = let named = file_input a old new files Bill f told in (named.0, inl named.1, named.2)
scenarios_input a old new files terms Offers f told = let named = file_input a old new files Offers f told in (named.0, inl named.1, named.2)
scenarios_input a old new files terms Terms f told = absurd f
scenarios_input a old new files terms TreeFile f told = absurd f
scenarios_input a old new files terms Old f told = absurd f
scenarios_input a old new files terms (Scenario at) f told =
    let fails = f.2.fails in
    (fails.0, inr (word_given terms f.2.before fails.0 fails.1), fails.2.named told)

unread_input : (a : Bool) (old new : State) (command : Asked) (file : InputFile) → IsUnreadBy a old new command file → IsSome old.world.files
    → (name : Name) × IsReadBy command name × (new.failed_last ≡ Some name)
unread_input a old new (ToSolve files tree workers) file f told = file_input a old new files file f told
unread_input a old new (ToCheck files tree) file f told = tree_input a old new files tree file f told
unread_input a old new (ToNeed orders bill) file f told = bill_input a old new orders bill file f told
unread_input a old new (ToMake seed goods suppliers) file f told = absurd f
unread_input a old new (ToRequote files name tree) file f told = old_input a old new files name file f told
unread_input a old new (ToCompare files terms workers) file f told = scenarios_input a old new files terms file f told
unread_input a old new (ToTabulate files workers) file f told = file_input a old new files file f told
unread_input a old new (ToBreakEven files supplier) file f told = file_input a old new files file f told

pub unread_named : (a : Bool) (old new : State) (words : List Name) (command : Asked) (file : InputFile) → command_of words ≡ Some command → IsUnreadBy a old new command file
    → FailsOnlyInputs old new words
unread_named a old new words command file are f = λ told.
    let named = unread_input a old new command file f told in
    inr (named.0, record { command = command; words_are = are; is_read = named.1 }, named.2)

-- nothing failed
rests_same : (s : State) → Rests s s
rests_same s = record { world = refl; kept = refl; never_fall = same_faults s.faults }

pub quiet_rests : (old new : State) (words : List Name) → Rests old new → IsQuiet old new words
quiet_rests old new words r = record { never_fall = r.never_fall; named = λ told. inl r.kept }

pub solve_stops : (a : Bool) (old new : State) (files : FilesNamed) (tree : Option Name) (workers : ℕ) (halt : NoValue)
    → ReadGives {V = JobRead} (JobOf a old.world files) (IsUnread a old new files) old new (Err halt) → StopsBy a old new (ToSolve files tree workers) halt
solve_stops a old new files tree workers (Bad fault text) h = h
solve_stops a old new files tree workers (Unread file) h = h
solve_stops a old new files tree workers WantsMemoryToo h = h

pub compare_stops : (a : Bool) (old new : State) (files : FilesNamed) (terms : List (Option Name)) (workers : ℕ) (halt : NoValue)
    → ReadGives {V = List Job} (ScenariosOf a old.world files terms) (IsUnreadScenarios a old new files terms) old new (Err halt) → StopsBy a old new (ToCompare files terms workers) halt
compare_stops a old new files terms workers (Bad fault text) h = h
compare_stops a old new files terms workers (Unread file) h = h
compare_stops a old new files terms workers WantsMemoryToo h = h

pub table_stops : (a : Bool) (old new : State) (files : FilesNamed) (workers : ℕ) (halt : NoValue)
    → ReadGives {V = JobRead} (JobOf a old.world files) (IsUnread a old new files) old new (Err halt) → StopsBy a old new (ToTabulate files workers) halt
table_stops a old new files workers (Bad fault text) h = h
table_stops a old new files workers (Unread file) h = h
table_stops a old new files workers WantsMemoryToo h = h

pub cut_stops : (a : Bool) (old new : State) (files : FilesNamed) (supplier : Name) (halt : NoValue)
    → ReadGives {V = JobRead} (JobOf a old.world files) (IsUnread a old new files) old new (Err halt) → StopsBy a old new (ToBreakEven files supplier) halt
cut_stops a old new files supplier (Bad fault text) h = (h.0, inl h.1)
cut_stops a old new files supplier (Unread file) h = h
cut_stops a old new files supplier WantsMemoryToo h = h

pub needs_stops : (a : Bool) (old new : State) (orders : Name) (bill : Option Name) (halt : NoValue)
    → ReadGives {V = NeedsRead} (NeedsOf a old.world orders bill) (IsUnreadBill a old new orders bill) old new (Err halt) → StopsBy a old new (ToNeed orders bill) halt
needs_stops a old new orders bill (Bad fault text) h = h
needs_stops a old new orders bill (Unread file) h = h
needs_stops a old new orders bill WantsMemoryToo h = h

-- a job was read for a `check`, or not; and then the tree
unread_with_tree : (a : Bool) (old new : State) (files : FilesNamed) (tree : Name) (file : InputFile) → IsUnread a old new files file → IsUnreadWithTree a old new files tree file
unread_with_tree a old new files tree Orders f = f
unread_with_tree a old new files tree Bill f = f
unread_with_tree a old new files tree Offers f = f
unread_with_tree a old new files tree Terms f = f
unread_with_tree a old new files tree TreeFile f = absurd f
unread_with_tree a old new files tree Old f = absurd f
unread_with_tree a old new files tree (Scenario at) f = absurd f

pub check_stops : (a : Bool) (old new : State) (files : FilesNamed) (tree : Name) (halt : NoValue)
    → ReadGives {V = JobRead} (JobOf a old.world files) (IsUnread a old new files) old new (Err halt) → VerdictGives a old new files tree (Err halt)
check_stops a old new files tree (Bad fault text) h = (h.0, inl h.1)
check_stops a old new files tree (Unread file) h = (h.0, unread_with_tree a old new files tree file h.1)
check_stops a old new files tree WantsMemoryToo h = h

pub check_after : (a : Bool) (old mid new : State) (files : FilesNamed) (tree : Name) (read : JobRead) (r : Result Verdict NoValue) → Rests old mid → IsJobOutcome a old.world files (Ok read)
    → CheckFileGives a read.job mid new tree r → VerdictGives a old new files tree r
check_after a old mid new files tree read (Ok shown) rests stated g =
    (rests_then old mid new rests g.0, record { read = read; stated = stated; shows = subst (λ (w : World). Shows a w tree read.job shown) rests.world g.1 })
check_after a old mid new files tree read (Err (Bad fault text)) rests stated g = (
  rests_then old mid new rests g.0,
  inr (record { read = read; stated = stated; told_is = g.1; long = subst (λ (w : World). IsLongTree a w tree read.job) rests.world g.2 }),
)
check_after a old mid new files tree read (Err (Unread file)) rests stated g =
    (still_then old mid new rests g.0, subst (IsUnreadWithTree a old new files tree) (sym g.1.is_file) (read, stated.states, fails_later old mid new tree rests g.1.fails))
check_after a old mid new files tree read (Err WantsMemoryToo) rests stated g = rests_then old mid new rests g

-- a job was read for a `requote`, or not; and then the old tree
unread_with_old : (a : Bool) (old new : State) (files : FilesNamed) (name : Name) (file : InputFile) → IsUnread a old new files file → IsUnreadWithOld a old new files name file
unread_with_old a old new files name Orders f = f
unread_with_old a old new files name Bill f = f
unread_with_old a old new files name Offers f = f
unread_with_old a old new files name Terms f = f
unread_with_old a old new files name TreeFile f = absurd f
unread_with_old a old new files name Old f = absurd f
unread_with_old a old new files name (Scenario at) f = absurd f

pub old_stops : (a : Bool) (old new : State) (files : FilesNamed) (name : Name) (halt : NoValue)
    → ReadGives {V = JobRead} (JobOf a old.world files) (IsUnread a old new files) old new (Err halt) → RequoteGives a old new files name (Err halt)
old_stops a old new files name (Bad fault text) h = λ tree. (h.0, inl h.1)
old_stops a old new files name (Unread file) h = λ tree. (h.0, unread_with_old a old new files name file h.1)
old_stops a old new files name WantsMemoryToo h = λ tree. h

pub old_unread : (a : Bool) (old mid new : State) (files : FilesNamed) (name : Name) (read : JobRead) (halt : NoValue) → Rests old mid → IsJobOutcome a old.world files (Ok read)
    → InputGives a mid new Old name OLD_MAX (Err halt) → RequoteGives a old new files name (Err halt)
old_unread a old mid new files name read (Bad fault text) rests stated g = λ tree. (
  rests_then old mid new rests g.0,
  inr (record { read = read; stated = stated; told_is = g.1; long = subst (λ (w : World). IsTooLong a w name OLD_MAX) rests.world g.2 }),
)
old_unread a old mid new files name read (Unread file) rests stated g = λ tree.
    (still_then old mid new rests g.0, subst (IsUnreadWithOld a old new files name) (sym g.1.is_file) (read, stated.states, fails_later old mid new name rests g.1.fails))
old_unread a old mid new files name read WantsMemoryToo rests stated g = λ tree. rests_then old mid new rests g

pub requote_read : (a : Bool) (old mid new : State) (files : FilesNamed) (name : Name) (read : RequoteRead) → Rests old mid → IsJobOutcome a old.world files (Ok read.job)
    → Rests mid new → ReadsAs a mid.world name read.old → length read.old ≤ OLD_MAX → RequoteGives a old new files name (Ok read)
requote_read a old mid new files name read rests stated rest reads within = (
  rests_then old mid new rests rest,
  record { stated = stated; is_old = record { reads = subst (λ (w : World). ReadsAs a w name read.old) rests.world reads; within = within } },
)

-- the answer at a halt
stop_quiet : (a : Bool) (old new : State) (words : List Name) (command : Asked) (halt : NoValue) → command_of words ≡ Some command → StopsBy a old new command halt → IsQuiet old new words
stop_quiet a old new words command (Bad fault text) are h = quiet_rests old new words h.0
stop_quiet a old new words command (Unread file) are h = record { never_fall = h.0.never_fall; named = unread_named a old new words command file are h.1 }
stop_quiet a old new words command WantsMemoryToo are h = quiet_rests old new words h

stop_world : (a : Bool) (old new : State) (command : Asked) (halt : NoValue) → StopsBy a old new command halt → new.world ≡ old.world
stop_world a old new command (Bad fault text) h = h.0.world
stop_world a old new command (Unread file) h = h.0.world
stop_world a old new command WantsMemoryToo h = h.world

-- an answer and its text that stand fast
pub reply_as : (a : Bool) (old new : State) (between : World) (words : List Name) (answer : Answer) (text : Bytes) (reply : Reply) → reply.answer ≡ answer → reply.text.items ≡ text
    → IsReply a old new between words answer text → IsReply a old new between words reply.answer reply.text.items
reply_as a old new between words answer text reply same_answer same_text f =
    subst (λ (b : Answer). IsReply a old new between words b reply.text.items) (sym same_answer) (subst (IsReply a old new between words answer) (sym same_text) f)

stop_gives : (a : Bool) (old new : State) (words : List Name) (command : Asked) (halt : NoValue) (reply : Reply) → command_of words ≡ Some command → StopsBy a old new command halt
    → ReplyWithoutValue halt (Ok reply) → IsReply a old new new.world words reply.answer reply.text.items
stop_gives a old new words command (Bad fault text) reply are h is =
    reply_as a old new new.world words (BadInput fault) text.items reply is.0 is.1 (h.0.world, record { command = command; words_are = are; stated = h.1 })
stop_gives a old new words command (Unread file) reply are h is =
    reply_as a old new new.world words (ReadFault file) (unread_text file) reply is.0 is.1 (h.0.world, record { command = command; words_are = are; unread = h.1; text_is = refl })
stop_gives a old new words command WantsMemoryToo reply are h is = absurd is

pub stop_replies : (a : Bool) (old new : State) (words : List Name) (command : Asked) (halt : NoValue) (r : Result Reply NoMemory) → command_of words ≡ Some command
    → StopsBy a old new command halt → ReplyWithoutValue halt r → PlainReplies a old new words r
stop_replies a old new words command halt (Ok reply) are h is = record { quiet = stop_quiet a old new words command halt are h; gives = stop_gives a old new words command halt reply are h is }
stop_replies a old new words command halt (Err stop) are h is = record { quiet = stop_quiet a old new words command halt are h; gives = stop_world a old new command halt h }

-- a command that saves nothing
pub plain_replies : (a : Bool) (old new : State) (words : List Name) (r : Result Reply NoMemory) → PlainReplies a old new words r → Replies a old new words (or_no_reply r)
plain_replies a old new words (Ok reply) l = record { quiet = l.quiet; gives = l.gives }
plain_replies a old new words (Err stop) l = record { quiet = l.quiet; gives = inl l.gives }

pub plain_as : (a : Bool) (old new : State) (words : List Name) (r : Result Reply NoMemory) (s : Result Reply NoReply) → s ≡ or_no_reply r → PlainReplies a old new words r
    → Replies a old new words s
plain_as a old new words r s same l = subst (Replies a old new words) (sym same) (plain_replies a old new words r l)

-- an answer that needs no file, or that is the same for all files that were read without a fault
pub steady_replies : (a : Bool) (old new : State) (words : List Name) (answer : Answer) (text : Bytes) (r : Result Reply NoMemory) → Rests old new
    → IsReply a old new new.world words answer text → IfOk r (λ reply. reply.answer ≡ answer) → IfOk r (λ reply. reply.text.items ≡ text) → PlainReplies a old new words r
steady_replies a old new words answer text (Ok reply) rests f same_answer same_text =
    record { quiet = quiet_rests old new words rests; gives = reply_as a old new new.world words answer text reply same_answer same_text f }
steady_replies a old new words answer text (Err stop) rests f same_answer same_text = record { quiet = quiet_rests old new words rests; gives = rests.world }

-- the needs of files that were read
pub needs_reply : (a : Bool) (old new : State) (words : List Name) (orders : Name) (bill : Option Name) (read : NeedsRead) (r : Result Reply NoMemory)
    → command_of words ≡ Some (ToNeed orders bill) → Rests old new → IsNeedsOutcome a old.world orders bill (Ok read)
    → IfOk r (λ reply. reply.answer ≡ Listed) → IfOk r (λ reply. reply.text.items ≡ needs_text read.bill.names read.needs.goods read.needs.units) → PlainReplies a old new words r
needs_reply a old new words orders bill read r are rests stated same_answer same_text =
    steady_replies a old new words Listed _ r rests
    (rests.world, record { command = ToNeed orders bill; words_are = are; lists = record { read = read; stated = stated; text_is = refl } }) same_answer same_text

-- what the text of a tree shows
checked_reply : (a : Bool) (old new : State) (words : List Name) (files : FilesNamed) (tree : Name) (shown : Verdict) (answer : Answer) (text : Bytes)
    → command_of words ≡ Some (ToCheck files tree) → new.world ≡ old.world → Checks a old.world files tree shown → VerdictAnswer shown answer text
    → IsReply a old new new.world words answer text
checked_reply a old new words files tree shown (Solved plan amount) text are same c v = absurd v
checked_reply a old new words files tree shown Infeasible text are same c v = absurd v
checked_reply a old new words files tree shown (Accepted cost) text are same c v =
    (same, record { files = files; tree = tree; is_check = record { words_are = are }; read = c.read; stated = c.stated; shown = shown; shows = c.shows; answers = v })
checked_reply a old new words files tree shown AcceptedNone text are same c v =
    (same, record { files = files; tree = tree; is_check = record { words_are = are }; read = c.read; stated = c.stated; shown = shown; shows = c.shows; answers = v })
checked_reply a old new words files tree shown (Rejected rejection) text are same c v =
    (same, record { files = files; tree = tree; is_check = record { words_are = are }; read = c.read; stated = c.stated; shown = shown; shows = c.shows; answers = v })
checked_reply a old new words files tree shown Listed text are same c v = absurd v
checked_reply a old new words files tree shown Words text are same c v = absurd v
checked_reply a old new words files tree shown (BadInput fault) text are same c v = absurd v
checked_reply a old new words files tree shown (ReadFault file) text are same c v = absurd v
checked_reply a old new words files tree shown (WriteFault target) text are same c v = absurd v
checked_reply a old new words files tree shown Memory text are same c v = absurd v

pub check_replies : (a : Bool) (old new : State) (words : List Name) (files : FilesNamed) (tree : Name) (shown : Verdict) (r : Result Reply NoMemory)
    → command_of words ≡ Some (ToCheck files tree) → Rests old new → Checks a old.world files tree shown → IfOk r (λ reply. VerdictAnswer shown reply.answer reply.text.items) → PlainReplies a old new words r
check_replies a old new words files tree shown (Ok reply) are rests c v =
    record { quiet = quiet_rests old new words rests; gives = checked_reply a old new words files tree shown reply.answer reply.text.items are rests.world c v }
check_replies a old new words files tree shown (Err stop) are rests c v = record { quiet = quiet_rests old new words rests; gives = rests.world }

-- the summary of a made job
pub makes : (a : Bool) (s : State) (words : List Name) (seed goods suppliers : ℕ) (r : Result Reply NoMemory) → command_of words ≡ Some (ToMake seed goods suppliers)
    → IfOk r (λ reply. reply.answer ≡ Listed) → IfOk r (λ reply. SumsUp seed goods suppliers reply.text.items) → PlainReplies a s s words r
makes a s words seed goods suppliers (Ok reply) are same_answer sums =
    steady_replies a s s words Listed reply.text.items (Ok reply) (rests_same s)
    (refl, record { command = ToMake seed goods suppliers; words_are = are; lists = sums }) same_answer refl
makes a s words seed goods suppliers (Err stop) are same_answer sums = record { quiet = quiet_rests s s words (rests_same s); gives = refl }

-- costs that were found are those of the same jobs
pub costs_found : (r : Result CostList NoMemory) (given jobs : List Job) → given ≡ jobs → IfOk r (AreCosts given) → ForOk r (AreCosts jobs)
costs_found (Ok costs) given jobs same are = λ other is. subst (AreCosts jobs) (one_list costs other is) (subst (λ (list : List Job). AreCosts list costs) same are) where
  one_list : (costs other : CostList) → ◌≡◌ {A = Result CostList NoMemory} (Ok costs) (Ok other) → costs ≡ other
  one_list costs other is = cc
costs_found (Err stop) given jobs same are = λ other is. absurd (no_list stop other is) where
  no_list : (stop : NoMemory) (other : CostList) → ◌≡◌ {A = Result CostList NoMemory} (Err stop) (Ok other) → ⊥
  no_list stop other is = cc

-- the least costs of the jobs of `scenarios`
pub compare_replies : (a : Bool) (old new : State) (words : List Name) (files : FilesNamed) (terms : List (Option Name)) (workers : ℕ) (jobs : List Job) (r : Result Reply NoMemory)
    → command_of words ≡ Some (ToCompare files terms workers) → Rests old new → IsScenariosOutcome a old.world files terms (Ok jobs)
    → IfOk r (λ reply. reply.answer ≡ Listed) → IfOk r (λ reply. AreCostsTold jobs reply.text.items) → PlainReplies a old new words r
compare_replies a old new words files terms workers jobs (Ok reply) are rests stated same_answer told =
    steady_replies a old new words Listed reply.text.items (Ok reply) rests
    (rests.world, record { command = ToCompare files terms workers; words_are = are; lists = record { jobs = jobs; stated = stated; told = told } }) same_answer refl
compare_replies a old new words files terms workers jobs (Err stop) are rests stated same_answer told = record { quiet = quiet_rests old new words rests; gives = rests.world }

-- the winner table of a job that was read
pub table_replies : (a : Bool) (old new : State) (words : List Name) (files : FilesNamed) (workers : ℕ) (read : JobRead) (r : Result Reply NoMemory)
    → command_of words ≡ Some (ToTabulate files workers) → Rests old new → IsJobOutcome a old.world files (Ok read)
    → IfOk r (λ reply. reply.answer ≡ Listed) → IfOk r (λ reply. IsTableText read.job reply.text.items) → PlainReplies a old new words r
table_replies a old new words files workers read (Ok reply) are rests stated same_answer table =
    steady_replies a old new words Listed reply.text.items (Ok reply) rests
    (rests.world, record { command = ToTabulate files workers; words_are = are; lists = record { read = read; stated = stated; table = table } }) same_answer refl
table_replies a old new words files workers read (Err stop) are rests stated same_answer table = record { quiet = quiet_rests old new words rests; gives = rests.world }

-- the cut of a supplier's prices
cut_found : (a : Bool) (old new : State) (words : List Name) (files : FilesNamed) (supplier : Name) (read : JobRead) (answer : Answer) (text : Bytes)
    → command_of words ≡ Some (ToBreakEven files supplier) → new.world ≡ old.world → IsJobOutcome a old.world files (Ok read) → AnswersCut read supplier answer text
    → IsReply a old new new.world words answer text
cut_found a old new words files supplier read (Solved plan amount) text are same stated c = absurd c
cut_found a old new words files supplier read Infeasible text are same stated c =
    inr (same, record { files = files; supplier = supplier; is_break_even = record { words_are = are }; found = record { read = read; stated = stated; answers = c } })
cut_found a old new words files supplier read (Accepted cost) text are same stated c = absurd c
cut_found a old new words files supplier read AcceptedNone text are same stated c = absurd c
cut_found a old new words files supplier read (Rejected rejection) text are same stated c = absurd c
cut_found a old new words files supplier read Listed text are same stated c =
    (same, record { command = ToBreakEven files supplier; words_are = are; lists = record { read = read; stated = stated; answers = c } })
cut_found a old new words files supplier read Words text are same stated c = absurd c
cut_found a old new words files supplier read (BadInput fault) text are same stated c =
    (same, record { command = ToBreakEven files supplier; words_are = are; stated = inr (record { read = read; stated = stated; answers = c }) })
cut_found a old new words files supplier read (ReadFault file) text are same stated c = absurd c
cut_found a old new words files supplier read (WriteFault target) text are same stated c = absurd c
cut_found a old new words files supplier read Memory text are same stated c = absurd c

pub cut_replies : (a : Bool) (old new : State) (words : List Name) (files : FilesNamed) (supplier : Name) (read : JobRead) (r : Result Reply NoMemory)
    → command_of words ≡ Some (ToBreakEven files supplier) → Rests old new → IsJobOutcome a old.world files (Ok read)
    → IfOk r (λ reply. AnswersCut read supplier reply.answer reply.text.items) → PlainReplies a old new words r
cut_replies a old new words files supplier read (Ok reply) are rests stated c =
    record { quiet = quiet_rests old new words rests; gives = cut_found a old new words files supplier read reply.answer reply.text.items are rests.world stated c }
cut_replies a old new words files supplier read (Err stop) are rests stated c = record { quiet = quiet_rests old new words rests; gives = rests.world }

-- the answer to a job that was read
solved_reply : (a : Bool) (old new : State) (between : World) (words : List Name) (files : FilesNamed) (tree : Option Name) (from : Option Bytes) (read : JobRead) (answer : Answer) (text : Bytes)
    → Seeks a old.world words files tree from → IsJobOutcome a old.world files (Ok read) → IsSolved read from old.world between tree answer text
    → IsReply a old new between words answer text
solved_reply a old new between words files tree from read (Solved plan amount) text seeks stated s =
    record { files = files; tree = tree; from = from; seeks = seeks; read = read; stated = stated; solved = s }
solved_reply a old new between words files tree from read Infeasible text seeks stated s =
    inl (record { files = files; tree = tree; from = from; seeks = seeks; read = read; stated = stated; solved = s })
solved_reply a old new between words files tree from read (Accepted cost) text seeks stated s = absurd s.solves
solved_reply a old new between words files tree from read AcceptedNone text seeks stated s = absurd s.solves
solved_reply a old new between words files tree from read (Rejected rejection) text seeks stated s = absurd s.solves
solved_reply a old new between words files tree from read Listed text seeks stated s = absurd s.solves
solved_reply a old new between words files tree from read Words text seeks stated s = absurd s.solves
solved_reply a old new between words files tree from read (BadInput fault) text seeks stated s = absurd s.solves
solved_reply a old new between words files tree from read (ReadFault file) text seeks stated s = absurd s.solves
solved_reply a old new between words files tree from read (WriteFault target) text seeks stated s = absurd s.solves
solved_reply a old new between words files tree from read Memory text seeks stated s = absurd s.solves

cut_reply : (a : Bool) (old between : World) (words : List Name) (files : FilesNamed) (tree : Option Name) (from : Option Bytes) (read : JobRead)
    → Seeks a old words files tree from → IsJobOutcome a old files (Ok read) → IsCut read from old between tree → IsTreeCut a old between words
cut_reply a old between words files tree from read seeks stated l =
    record { files = files; tree = tree; from = from; seeks = seeks; read = read; stated = stated; cut = l }

solve_quiet : (old mid new : State) (words : List Name) → Rests old mid → IsSteady mid new → IsQuiet old new words
solve_quiet old mid new words rests s = record { never_fall = falls_never _ mid.faults _ rests.never_fall s.never_fall; named = λ told. inl (s.kept ∙ rests.kept) }

pub solve_replies : (a : Bool) (old mid new : State) (words : List Name) (files : FilesNamed) (tree : Option Name) (from : Option Bytes) (read : JobRead) (r : Result Reply NoReply)
    → Seeks a old.world words files tree from → Rests old mid → IsJobOutcome a old.world files (Ok read) → SolveGives read from mid new tree r → Replies a old new words r
solve_replies a old mid new words files tree from read (Ok reply) seeks rests stated g = record {
  quiet = solve_quiet old mid new words rests g.0;
  gives = solved_reply a old new new.world words files tree from read reply.answer reply.text.items seeks stated
      (subst (λ (w : World). IsSolved read from w new.world tree reply.answer reply.text.items) rests.world g.1);
}
solve_replies a old mid new words files tree from read (Err NoTree) seeks rests stated g = record {
  quiet = solve_quiet old mid new words rests g.0;
  gives = (
    rose_later old.faults.writing mid.faults.writing new.faults.writing rests.never_fall.writing g.1,
    cut_reply a old.world new.world words files tree from read seeks stated (subst (λ (w : World). IsCut read from w new.world tree) rests.world g.2),
  );
}
solve_replies a old mid new words files tree from read (Err WantsMemory) seeks rests stated g = record {
  quiet = solve_quiet old mid new words rests g.0;
  gives = elim g.1 [
    | inl same ↦ inl (same ∙ rests.world)
    | inr lost ↦ inr (cut_reply a old.world new.world words files tree from read seeks stated (subst (λ (w : World). IsCut read from w new.world tree) rests.world lost))
  ];
}

-- no slot is open in a world that is as it was
pub idle_as : (old new : World) → new ≡ old → IsIdle old → IsIdle new
idle_as old new same idle = subst IsIdle (sym same) idle
