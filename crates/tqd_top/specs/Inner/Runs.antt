-- What the two steps of a command do: to find the answer, and to print its text.
use Rattle.std.specs.Prelude.{ℕ, ◌≡◌, ◌≤◌, ◌⊎◌, Bool, List, length, take, Option, IfOk, Result, Ok, Err}
use Rattle.tqd_base.specs.declared.memory.Memory.{Memory as NoMemory}
use Rattle.tqd_base.specs.World.{World, State, Name, Bytes, NeverFall, Rose, print}
use Rattle.tqd_base.specs.Calls.{Rests}
use Rattle.tree_checker.specs.declared.rejection.Verdict.{Verdict}
use Rattle.tqd_top.specs.declared.answer.NoReply.{NoReply}
use Rattle.tqd_top.specs.declared.answer.NoReply.TheVariants.{Tree as NoTree, Memory as WantsMemory}
use Rattle.plan_report.specs.FaultText.{unread_text}
use Rattle.tqd_top.specs.declared.answer.Target.TheVariants.{Tree, Out}
use Rattle.tqd_top.specs.declared.answer.Answer.{Answer}
use Rattle.tqd_top.specs.declared.answer.Answer.TheVariants.{BadInput, ReadFault, WriteFault, Memory}
use Rattle.tqd_top.specs.declared.answer.Reply.{Reply}
use Rattle.tqd_top.specs.declared.no_value.NoValue.{NoValue}
use Rattle.tqd_top.specs.declared.no_value.NoValue.TheVariants.{Bad, Unread, Memory as WantsMemoryToo}
use Rattle.tqd_top.specs.declared.reading.JobRead.{JobRead}
use Rattle.tqd_top.specs.declared.old_tree.RequoteRead.{RequoteRead}
use Rattle.command_words.specs.Words.{Asked, FilesNamed, ToCheck, ToRequote}
use Rattle.tqd_top.specs.Inner.Steps.{IsStill}
use Rattle.tqd_top.specs.Shows.{Shows}
use Rattle.tqd_top.specs.Causes.{FailsOnlyInputs, IsFaultOf}
use Rattle.tqd_top.specs.Output.{IsReply, IsTreeCut}
use Rattle.tqd_top.specs.JobOf.{IsJobOutcome}
use Rattle.tqd_top.specs.Requotes.{IsOldText}
use Rattle.tqd_top.specs.Unread.{IsUnreadBy}

-- what halted the reading of a command's files
abbrev pub StopsBy : Bool → State → State → Asked → NoValue → Type 0
StopsBy absent_is_empty old new command (Bad fault text) =
    Rests old new × IsFaultOf absent_is_empty old.world command (record { fault = fault; text = text.items })
StopsBy absent_is_empty old new command (Unread file) =
    IsStill old new × IsUnreadBy absent_is_empty old new command file
StopsBy absent_is_empty old new command WantsMemoryToo = Rests old new

-- the files state a job, and the text of the tree shows this of it
pub record Checks (absent_is_empty : Bool) (w : World) (files : FilesNamed) (tree : Name)
    (shown : Verdict) : Type 0 where
  pub read : JobRead
  pub stated : IsJobOutcome absent_is_empty w files (Ok read)
  pub shows : Shows absent_is_empty w tree read.job shown

abbrev pub VerdictGives : Bool → State → State → FilesNamed → Name → Result Verdict NoValue → Type 0
VerdictGives absent_is_empty old new files tree (Ok shown) =
    Rests old new × Checks absent_is_empty old.world files tree shown
VerdictGives absent_is_empty old new files tree (Err halt) = StopsBy absent_is_empty old new (ToCheck files tree) halt

-- the files state this job, and the file of the old tree has this text
pub record IsRequoteRead (absent_is_empty : Bool) (w : World) (files : FilesNamed) (name : Name)
    (read : RequoteRead) : Type 0 where
  pub stated : IsJobOutcome absent_is_empty w files (Ok read.job)
  pub is_old : IsOldText absent_is_empty w name read.old

-- reading them, whether a file is named for the new tree or not
abbrev pub RequoteGives : Bool → State → State → FilesNamed → Name → Result RequoteRead NoValue → Type 0
RequoteGives absent_is_empty old new files name (Ok read) =
    Rests old new × IsRequoteRead absent_is_empty old.world files name read
RequoteGives absent_is_empty old new files name (Err halt) =
    (tree : Option Name) → StopsBy absent_is_empty old new (ToRequote files name tree) halt

-- what was found where the files gave no value
abbrev pub ReplyWithoutValue : NoValue → Result Reply NoMemory → Type 0
ReplyWithoutValue (Bad fault text) result =
    IfOk result (λ reply. (reply.answer ≡ BadInput fault) × (reply.text.items ≡ text.items))
ReplyWithoutValue (Unread file) result =
    IfOk result (λ reply. (reply.answer ≡ ReadFault file) × (reply.text.items ≡ unread_text file))
ReplyWithoutValue WantsMemoryToo result = IfOk result (λ reply. ⊥)

-- an answer with its cause; or the tree was not saved whole; or memory was wanting, before a tree was begun or after
abbrev pub ReplyGives : Bool → State → State → List Name → Result Reply NoReply → Type 0
ReplyGives absent_is_empty old new words (Ok reply) =
    IsReply absent_is_empty old new new.world words reply.answer reply.text.items
ReplyGives absent_is_empty old new words (Err NoTree) =
    Rose old.faults.writing new.faults.writing × IsTreeCut absent_is_empty old.world new.world words
ReplyGives absent_is_empty old new words (Err WantsMemory) =
    (new.world ≡ old.world) ⊎ IsTreeCut absent_is_empty old.world new.world words

-- the same of a command that saves nothing
abbrev pub PlainReplyGives : Bool → State → State → List Name → Result Reply NoMemory → Type 0
PlainReplyGives absent_is_empty old new words (Ok reply) =
    IsReply absent_is_empty old new new.world words reply.answer reply.text.items
PlainReplyGives absent_is_empty old new words (Err stop) = new.world ≡ old.world

-- a command that saves nothing, as one that may
abbrev pub or_no_reply : Result Reply NoMemory → Result Reply NoReply
or_no_reply (Ok reply) = Ok reply
or_no_reply (Err stop) = Err WantsMemory

-- no count fell, and only input files failed to be read
pub record IsQuiet (old new : State) (words : List Name) : Type 0 where
  pub never_fall : NeverFall old.faults new.faults
  pub named : FailsOnlyInputs old new words

pub record Replies (absent_is_empty : Bool) (old new : State) (words : List Name)
    (result : Result Reply NoReply) : Type 0 where
  pub quiet : IsQuiet old new words
  pub gives : ReplyGives absent_is_empty old new words result

pub record PlainReplies (absent_is_empty : Bool) (old new : State) (words : List Name)
    (result : Result Reply NoMemory) : Type 0 where
  pub quiet : IsQuiet old new words
  pub gives : PlainReplyGives absent_is_empty old new words result

-- the output grew by so many bytes of the text, and nothing else changed
pub record Grows (old new : State) (text : Bytes) (count : ℕ) : Type 0 where
  pub within : count ≤ length text
  pub world : new.world ≡ print old.world (take count text)

-- the text was printed whole, or the answer says why not
pub record PrintsAll (old new : State) (text : Bytes) : Type 0 where
  pub world : new.world ≡ print old.world text

abbrev pub PrintAnswer : State → State → Answer → Bytes → Answer → Type 0
PrintAnswer old new answer text result = ((result ≡ answer) × PrintsAll old new text)
    ⊎ (((result ≡ WriteFault Out) × Rose old.faults.printing new.faults.printing
    × ((count : ℕ) × Grows old new text count))
    ⊎ ((result ≡ Memory) × ((count : ℕ) × Grows old new text count)))

pub record PrintGives (old new : State) (answer : Answer) (text : Bytes) (result : Answer) : Type 0 where
  pub kept : new.failed_last ≡ old.failed_last
  pub never_fall : NeverFall old.faults new.faults
  pub cases : PrintAnswer old new answer text result

-- what was found was printed; or there was nothing to print
abbrev pub EndGives : State → State → Result Reply NoReply → Answer → Type 0
EndGives old new (Ok reply) result = PrintGives old new reply.answer reply.text.items result
EndGives old new (Err NoTree) result = (result ≡ WriteFault Tree) × (new ≡ old)
EndGives old new (Err WantsMemory) result = (result ≡ Memory) × (new ≡ old)
