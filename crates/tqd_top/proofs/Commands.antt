-- What an answer with its cause says of the command that the words are, where no count of faults rose.
use Rattle.std.proofs.Common.{◌≡◌, Bool, List, Option, None, Some, subst, inl, inr}
use Rattle.std.specs.Prelude.{Ok}
use Rattle.tqd_base.specs.World.{World, State, Name, Bytes, Rose}
use Rattle.tqd_instance.specs.declared.job.Job.{Job}
use Rattle.tqd_instance.specs.declared.plan.Plan.{Plan}
use Rattle.tqd_instance.specs.Plan.{units}
use Rattle.tqd_instance.specs.Least.{Least, HasNoPurchase}
use Rattle.tree_checker.specs.declared.rejection.Verdict.{Verdict}
use Rattle.plan_report.specs.declared.file.InputFile.{InputFile}
use Rattle.plan_report.specs.declared.file.InputFile.TheVariants.{Orders, Bill, Offers, Terms, Tree as TreeFile, Old, Scenario}
use Rattle.tqd_top.specs.declared.answer.Target.TheVariants.{Tree, Out}
use Rattle.tqd_top.specs.declared.answer.Answer.{Answer}
use Rattle.tqd_top.specs.declared.answer.Answer.TheVariants.{Solved, Infeasible, Accepted, AcceptedNone, Rejected, Listed, Words, BadInput, ReadFault, WriteFault, Memory}
use Rattle.tqd_top.specs.declared.reading.JobRead.{JobRead}
use Rattle.command_words.specs.Words.{Asked, FilesNamed, IsNoForm, ToBreakEven, ToCheck, ToCompare, ToMake, ToNeed, ToRequote, ToSolve, ToTabulate, command_of}
use Rattle.tqd_top.specs.JobOf.{IsJobOutcome}
use Rattle.tqd_top.specs.Requotes.{IsOldText, Seeks}
use Rattle.tqd_top.specs.Shows.{Shows, VerdictAnswer}
use Rattle.tqd_top.specs.Unread.{IsUnread, IsUnreadBill, IsUnreadScenarios, IsUnreadWithOld, IsUnreadWithTree, IsUnreadBy}
use Rattle.tqd_top.specs.Causes.{IsChecked, IsFaultOf}
use Rattle.tqd_top.specs.BreakEven.{IsCutAnswer}
use Rattle.tqd_top.specs.Listed.{IsListedBy}
use Rattle.tqd_top.specs.Complete.{IsFaultless}
use Rattle.tqd_top.proofs.Causes.{HasCause}

-- words give one command
same_command : (words : List Name) (x y : Asked) → command_of words ≡ Some x → command_of words ≡ Some y → x ≡ y
same_command words x y p q = cc

pub not_none : (words : List Name) (x : Asked) → command_of words ≡ Some x → IsNoForm words → ⊥
not_none words x p none = cc

-- each fault of reading was counted
bill_rose : (a : Bool) (old new : State) (orders : Name) (bill : Option Name) (file : InputFile) → IsUnreadBill a old new orders bill file → Rose old.faults.reading new.faults.reading
bill_rose a old new orders bill Orders f = f.rose
bill_rose a old new orders bill Bill f = f.2.2.rose
bill_rose a old new orders bill Offers f = absurd f
bill_rose a old new orders bill Terms f = absurd f
bill_rose a old new orders bill TreeFile f = absurd f
bill_rose a old new orders bill Old f = absurd f
bill_rose a old new orders bill (Scenario at) f = absurd f

files_rose : (a : Bool) (old new : State) (files : FilesNamed) (file : InputFile) → IsUnread a old new files file → Rose old.faults.reading new.faults.reading
files_rose a old new files Orders f = f.rose
files_rose a old new files Bill f = f.2.2.rose
files_rose a old new files Offers f = f.2.rose
files_rose a old new files Terms f = f.2.2.rose
files_rose a old new files TreeFile f = absurd f
files_rose a old new files Old f = absurd f
files_rose a old new files (Scenario at) f = absurd f

tree_rose : (a : Bool) (old new : State) (files : FilesNamed) (tree : Name) (file : InputFile) → IsUnreadWithTree a old new files tree file → Rose old.faults.reading new.faults.reading
tree_rose a old new files tree Orders f = files_rose a old new files Orders f
tree_rose a old new files tree Bill f = files_rose a old new files Bill f
tree_rose a old new files tree Offers f = files_rose a old new files Offers f
tree_rose a old new files tree Terms f = files_rose a old new files Terms f
tree_rose a old new files tree TreeFile f = f.2.rose
tree_rose a old new files tree Old f = absurd f
tree_rose a old new files tree (Scenario at) f = absurd f

old_rose : (a : Bool) (old new : State) (files : FilesNamed) (name : Name) (file : InputFile) → IsUnreadWithOld a old new files name file → Rose old.faults.reading new.faults.reading
old_rose a old new files name Orders f = files_rose a old new files Orders f
old_rose a old new files name Bill f = files_rose a old new files Bill f
old_rose a old new files name Offers f = files_rose a old new files Offers f
old_rose a old new files name Terms f = files_rose a old new files Terms f
old_rose a old new files name TreeFile f = absurd f
old_rose a old new files name Old f = f.2.rose
old_rose a old new files name (Scenario at) f = absurd f

scenarios_rose : (a : Bool) (old new : State) (files : FilesNamed) (terms : List (Option Name)) (file : InputFile) → IsUnreadScenarios a old new files terms file
    → Rose old.faults.reading new.faults.reading
scenarios_rose a old new files terms Orders f = files_rose a old new files Orders f
scenarios_rose a old new files terms Bill f = files_rose a old new files Bill f
scenarios_rose a old new files terms Offers f = files_rose a old new files Offers f
scenarios_rose a old new files terms Terms f = absurd f
scenarios_rose a old new files terms TreeFile f = absurd f
scenarios_rose a old new files terms Old f = absurd f
scenarios_rose a old new files terms (Scenario at) f = f.2.fails.2.rose

unread_rose : (a : Bool) (old new : State) (command : Asked) (file : InputFile) → IsUnreadBy a old new command file → Rose old.faults.reading new.faults.reading
unread_rose a old new (ToSolve files tree workers) file f = files_rose a old new files file f
unread_rose a old new (ToCheck files tree) file f = tree_rose a old new files tree file f
unread_rose a old new (ToNeed orders bill) file f = bill_rose a old new orders bill file f
unread_rose a old new (ToMake seed goods suppliers) file f = absurd f
unread_rose a old new (ToRequote files name tree) file f = old_rose a old new files name file f
unread_rose a old new (ToCompare files terms workers) file f = scenarios_rose a old new files terms file f
unread_rose a old new (ToTabulate files workers) file f = files_rose a old new files file f
unread_rose a old new (ToBreakEven files supplier) file f = files_rose a old new files file f

-- what is said of the job that the files of a `requote` state, whose old tree is not too long
pub record IsRequoted (a : Bool) (w : World) (files : FilesNamed) (name : Name) (Says : Job → Type 0) : Type 0 where
  pub read : JobRead
  pub stated : IsJobOutcome a w files (Ok read)
  pub says : Says read.job
  pub text : Bytes
  pub is_old : IsOldText a w name text

-- a least purchase of the job that the files of the command state
abbrev pub IsSolvedBy : Bool → World → Asked → Plan → Type 0
IsSolvedBy a w (ToSolve files tree workers) plan = (read : JobRead) × IsJobOutcome a w files (Ok read) × Least read.job (units plan)
IsSolvedBy a w (ToRequote files name tree) plan = IsRequoted a w files name (λ job. Least job (units plan))
IsSolvedBy a w _ plan = ⊥

-- or that no purchase of it is feasible
abbrev pub IsInfeasibleBy : Bool → World → Asked → Type 0
IsInfeasibleBy a w (ToSolve files tree workers) = (read : JobRead) × IsJobOutcome a w files (Ok read) × HasNoPurchase read.job
IsInfeasibleBy a w (ToRequote files name tree) = IsRequoted a w files name HasNoPurchase
IsInfeasibleBy a w (ToBreakEven files supplier) = (text : Bytes) × IsCutAnswer a w files supplier Infeasible text
IsInfeasibleBy a w _ = ⊥

-- what the text of the tree shows of the job that the files state
pub record IsShown (a : Bool) (w : World) (files : FilesNamed) (tree : Name) (answer : Answer) : Type 0 where
  pub read : JobRead
  pub stated : IsJobOutcome a w files (Ok read)
  pub shown : Verdict
  pub shows : Shows a w tree read.job shown
  pub text : Bytes
  pub answers : VerdictAnswer shown answer text

abbrev pub IsShownBy : Bool → World → Asked → Answer → Type 0
IsShownBy a w (ToCheck files tree) answer = IsShown a w files tree answer
IsShownBy a w _ answer = ⊥

-- what an answer means for a command
abbrev pub Means : Bool → World → Asked → Answer → Type 0
Means a w command (Solved plan amount) = IsSolvedBy a w command plan
Means a w command Infeasible = IsInfeasibleBy a w command
Means a w command (Accepted cost) = IsShownBy a w command (Accepted cost)
Means a w command AcceptedNone = IsShownBy a w command AcceptedNone
Means a w command (Rejected rejection) = IsShownBy a w command (Rejected rejection)
Means a w command Listed = (text : Bytes) × IsListedBy a w command text
Means a w command (BadInput fault) = (text : Bytes) × IsFaultOf a w command (record { fault = fault; text = text })
Means a w command Memory = Unit {0}
Means a w command _ = ⊥

shown_by : (a : Bool) (w : World) (words : List Name) (command : Asked) (answer : Answer) (text : Bytes) → command_of words ≡ Some command → IsChecked a w words answer text
    → IsShownBy a w command answer
shown_by a w words command answer text are c =
    subst (λ (x : Asked). IsShownBy a w x answer) (same_command words (ToCheck c.files c.tree) command c.is_check.words_are are)
    (record { read = c.read; stated = c.stated; shown = c.shown; shows = c.shows; text = text; answers = c.answers })

-- words that ask for a least purchase are a command
pub seeks_some : (a : Bool) (w : World) (words : List Name) (files : FilesNamed) (tree : Option Name) (from : Option Bytes) → Seeks a w words files tree from → IsNoForm words → ⊥
seeks_some a w words files tree None s none = not_none words _ s.words_are none
seeks_some a w words files tree (Some text) s none = not_none words _ s.1.words_are none

solved_by : (a : Bool) (w : World) (words : List Name) (command : Asked) (files : FilesNamed) (tree : Option Name) (from : Option Bytes) (read : JobRead) (plan : Plan)
    → command_of words ≡ Some command → Seeks a w words files tree from → IsJobOutcome a w files (Ok read) → Least read.job (units plan) → IsSolvedBy a w command plan
solved_by a w words command files tree None read plan are s stated least =
    subst (λ (x : Asked). IsSolvedBy a w x plan) (same_command words (ToSolve files tree s.workers) command s.words_are are) (read, stated, least)
solved_by a w words command files tree (Some text) read plan are s stated least =
    subst (λ (x : Asked). IsSolvedBy a w x plan) (same_command words (ToRequote files s.0 tree) command s.1.words_are are)
    (record { read = read; stated = stated; says = least; text = text; is_old = s.2 })

infeasible_by : (a : Bool) (w : World) (words : List Name) (command : Asked) (files : FilesNamed) (tree : Option Name) (from : Option Bytes) (read : JobRead)
    → command_of words ≡ Some command → Seeks a w words files tree from → IsJobOutcome a w files (Ok read) → HasNoPurchase read.job → IsInfeasibleBy a w command
infeasible_by a w words command files tree None read are s stated none =
    subst (IsInfeasibleBy a w) (same_command words (ToSolve files tree s.workers) command s.words_are are) (read, stated, none)
infeasible_by a w words command files tree (Some text) read are s stated none =
    subst (IsInfeasibleBy a w) (same_command words (ToRequote files s.0 tree) command s.1.words_are are)
    (record { read = read; stated = stated; says = none; text = text; is_old = s.2 })

pub means : (a : Bool) (old new : State) (words : List Name) (command : Asked) (answer : Answer) → command_of words ≡ Some command → IsFaultless old new → HasCause a old new words answer
    → Means a old.world command answer
means a old new words command (Solved plan amount) are f c =
    let s = c.reply in
    solved_by a old.world words command s.files s.tree s.from s.read plan are s.seeks s.stated s.solved.solves.0.least
means a old new words command Infeasible are f c = elim c.reply [
  | inl s ↦ infeasible_by a old.world words command s.files s.tree s.from s.read are s.seeks s.stated s.solved.solves.0
  | inr cut ↦ subst (IsInfeasibleBy a old.world) (same_command words (ToBreakEven cut.1.files cut.1.supplier) command cut.1.is_break_even.words_are are)
      (c.text, cut.1.found)
]
means a old new words command (Accepted cost) are f c = shown_by a old.world words command (Accepted cost) c.text are c.reply.1
means a old new words command AcceptedNone are f c = shown_by a old.world words command AcceptedNone c.text are c.reply.1
means a old new words command (Rejected rejection) are f c = shown_by a old.world words command (Rejected rejection) c.text are c.reply.1
means a old new words command Listed are f c =
    (c.text, subst (λ (x : Asked). IsListedBy a old.world x c.text) (same_command words c.reply.1.command command c.reply.1.words_are are) c.reply.1.lists)
means a old new words command Words are f c = absurd (not_none words command are c.reply.1)
means a old new words command (BadInput fault) are f c = (
  c.text,
  subst (λ (x : Asked). IsFaultOf a old.world x (record { fault = fault; text = c.text })) (same_command words c.reply.1.command command c.reply.1.words_are are) c.reply.1.stated,
)
means a old new words command (ReadFault file) are f c = absurd (f.reading (unread_rose a old new c.reply.1.command file c.reply.1.unread))
means a old new words command (WriteFault Out) are f c = absurd (f.printing c.0)
means a old new words command (WriteFault Tree) are f c = absurd (f.writing c.0)
means a old new words command Memory are f c = tt
