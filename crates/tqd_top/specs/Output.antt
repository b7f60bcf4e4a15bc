-- What is printed, and what stands in the file of the tree.
use Rattle.std.specs.Prelude.{ℕ, ◌≡◌, ◌⊎◌, ◌≤◌, ◌++◌, Bool, List, length, take, Option, Some, IsSome, Ok}
use Rattle.std.specs.Option.{option_map}
use Rattle.tqd_base.specs.World.{World, State, Name, Bytes, Rose, bytes_at, print}
use Rattle.tqd_instance.specs.declared.job.Job.{Job}
use Rattle.tqd_instance.specs.Purchase.{Purchase}
use Rattle.tree_checker.specs.declared.rejection.Verdict.{Verdict}
use Rattle.tree_checker.specs.Verdict.{verdict}
use Rattle.tqd_top.specs.declared.answer.Target.{Target}
use Rattle.tqd_top.specs.declared.answer.Target.TheVariants.{Tree, Out}
use Rattle.tqd_top.specs.declared.answer.Answer.{Answer}
use Rattle.tqd_top.specs.declared.answer.Answer.TheVariants.{Solved, Infeasible, Accepted, AcceptedNone, Rejected, Listed, Words, BadInput, ReadFault, WriteFault, Memory}
use Rattle.tqd_top.specs.declared.reading.JobRead.{JobRead}
use Rattle.command_words.specs.Forms.{usage_text}
use Rattle.command_words.specs.Words.{FilesNamed, IsNoForm}
use Rattle.tqd_top.specs.JobOf.{IsJobOutcome}
use Rattle.tqd_top.specs.Requotes.{Seeks}
use Rattle.tqd_top.specs.Certificate.{IsCertificate}
use Rattle.tqd_top.specs.SavedTree.{saved}
use Rattle.tqd_top.specs.Solves.{IsCut, IsSolved}
use Rattle.tqd_top.specs.BreakEven.{IsCutInfeasible}
use Rattle.tqd_top.specs.Listed.{IsListed}
use Rattle.tqd_top.specs.Causes.{IsBadInput, IsChecked, IsReadFault}

-- the output, where told, grew by exactly this text
abbrev pub Prints : World → World → Bytes → Type 0
Prints old new text = new.output ≡ option_map (λ output. output ++ text) old.output

-- a text of this kind was printed, and nothing else of the world changed
pub record Says (old new : World) (IsText : Bytes → Type 0) : Type 0 where
  pub text : Bytes
  pub is_text : IsText text
  pub world : new ≡ print old text

-- the file of a name has these bytes, and this is what they show of a job
pub record IsFileShowing (w : World) (name : Name) (job : Job) (shown : Verdict) : Type 0 where
  pub bytes : Bytes
  pub bytes_are : bytes_at w name ≡ Some bytes
  pub verdict_is : verdict job bytes ≡ shown

-- an answer to a job was printed; where the words name a file for its tree and the files are told, the bytes of that
-- file show the answer; they are the text of a tree that certifies it, grown from an old text where there is one; and
-- nothing else of the world changed
pub record Leaves (old new : World) (tree : Option Name) (job : Job) (from : Option Bytes) (best : Option Purchase)
    (text : Bytes) (shown : Verdict) : Type 0 where
  pub printed : Prints old new text
  pub shows : (name : Name) → tree ≡ Some name → IsSome old.files → IsFileShowing new name job shown
  pub certificate : Bytes
  pub certifies : IsCertificate job from best certificate
  pub world : new ≡ print (saved old tree certificate) text

-- the words are a `solve` or a `requote`, its files state a job, and this is the answer to it, whose tree is saved
-- where the words name a file
pub record IsJobSolved (absent_is_empty : Bool) (old between : World) (words : List Name) (answer : Answer)
    (text : Bytes) : Type 0 where
  pub files : FilesNamed
  pub tree : Option Name
  pub from : Option Bytes
  pub seeks : Seeks absent_is_empty old words files tree from
  pub read : JobRead
  pub stated : IsJobOutcome absent_is_empty old files (Ok read)
  pub solved : IsSolved read from old between tree answer text

-- the same, but the file of the tree was not made, or has a prefix of the tree
pub record IsTreeCut (absent_is_empty : Bool) (old between : World) (words : List Name) : Type 0 where
  pub files : FilesNamed
  pub tree : Option Name
  pub from : Option Bytes
  pub seeks : Seeks absent_is_empty old words files tree from
  pub read : JobRead
  pub stated : IsJobOutcome absent_is_empty old files (Ok read)
  pub cut : IsCut read from old between tree

-- an answer that the call could end with, and its text; `between` is the world before the text is printed
abbrev pub IsReply : Bool → State → State → World → List Name → Answer → Bytes → Type 0
IsReply absent_is_empty old new between words (Solved plan amount) text =
    IsJobSolved absent_is_empty old.world between words (Solved plan amount) text
IsReply absent_is_empty old new between words Infeasible text =
    IsJobSolved absent_is_empty old.world between words Infeasible text
    ⊎ ((between ≡ old.world) × IsCutInfeasible absent_is_empty old.world words text)
IsReply absent_is_empty old new between words (Accepted cost) text =
    (between ≡ old.world) × IsChecked absent_is_empty old.world words (Accepted cost) text
IsReply absent_is_empty old new between words AcceptedNone text =
    (between ≡ old.world) × IsChecked absent_is_empty old.world words AcceptedNone text
IsReply absent_is_empty old new between words (Rejected rejection) text =
    (between ≡ old.world) × IsChecked absent_is_empty old.world words (Rejected rejection) text
IsReply absent_is_empty old new between words Listed text =
    (between ≡ old.world) × IsListed absent_is_empty old.world words text
IsReply absent_is_empty old new between words Words text = (between ≡ old.world) × IsNoForm words × (text ≡ usage_text)
IsReply absent_is_empty old new between words (BadInput fault) text =
    (between ≡ old.world) × IsBadInput absent_is_empty old.world words fault text
IsReply absent_is_empty old new between words (ReadFault file) text =
    (between ≡ old.world) × IsReadFault absent_is_empty old new words file text
IsReply absent_is_empty old new between words (WriteFault target) text = ⊥
IsReply absent_is_empty old new between words Memory text = ⊥

-- an answer that the call could end with, of whose text no more than a prefix was printed
pub record IsCutOff (absent_is_empty : Bool) (old new : State) (words : List Name) : Type 0 where
  pub answer : Answer
  pub text : Bytes
  pub between : World
  pub reply : IsReply absent_is_empty old new between words answer text
  pub count : ℕ
  pub within : count ≤ length text
  pub world : new.world ≡ print between (take count text)

-- a fault of writing: of the tree, before anything was printed, or of the output
abbrev pub IsWriteFault : Bool → State → State → List Name → Target → Type 0
IsWriteFault absent_is_empty old new words Tree =
    Rose old.faults.writing new.faults.writing × IsTreeCut absent_is_empty old.world new.world words
IsWriteFault absent_is_empty old new words Out =
    Rose old.faults.printing new.faults.printing × IsCutOff absent_is_empty old new words

-- want of memory: nothing changed, or the tree or the text is cut short
abbrev pub IsWant : Bool → State → State → List Name → Type 0
IsWant absent_is_empty old new words =
    (new.world ≡ old.world)
    ⊎ (IsTreeCut absent_is_empty old.world new.world words ⊎ IsCutOff absent_is_empty old new words)
