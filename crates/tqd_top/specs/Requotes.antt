-- What a `requote` asks for: what a `solve` does, from an old tree.
use Rattle.std.specs.Prelude.{◌≡◌, ◌≤◌, Bool, List, length, Option, None, Some, Ok}
use Rattle.tqd_base.specs.World.{World, Name, Bytes}
use Rattle.tqd_base.specs.ReadAll.{IsTooLong}
use Rattle.plan_report.specs.declared.file.InputFile.TheVariants.{Old}
use Rattle.plan_report.specs.declared.fault.FileFault.TheVariants.{Size}
use Rattle.requote.specs.declared.replanting.TheConstants.{OLD_MAX}
use Rattle.tqd_top.specs.declared.reading.JobRead.{JobRead}
use Rattle.command_words.specs.Words.{FilesNamed, IsRequote, IsSolve}
use Rattle.tqd_top.specs.Reads.{ReadsAs}
use Rattle.tqd_top.specs.JobOf.{FaultLine, IsJobOutcome, plainly}

-- the file of an old tree has this text, which is not too long
pub record IsOldText (absent_is_empty : Bool) (w : World) (old : Name) (text : Bytes) : Type 0 where
  pub reads : ReadsAs absent_is_empty w old text
  pub within : length text ≤ OLD_MAX

-- the words ask for a least purchase, and for its tree where they name a file for it: a `solve`, where there is no old
-- text, or a `requote` whose OLD has this text
abbrev pub Seeks : Bool → World → List Name → FilesNamed → Option Name → Option Bytes → Type 0
Seeks absent_is_empty w words files tree None = IsSolve words files tree
Seeks absent_is_empty w words files tree (Some text) =
    (old : Name) × IsRequote words files old tree × IsOldText absent_is_empty w old text

-- the files state a job, and the file of the old tree is too long
pub record IsOldFault (absent_is_empty : Bool) (w : World) (files : FilesNamed) (old : Name)
    (told : FaultLine) : Type 0 where
  pub read : JobRead
  pub stated : IsJobOutcome absent_is_empty w files (Ok read)
  pub told_is : told ≡ plainly (Size Old)
  pub long : IsTooLong absent_is_empty w old OLD_MAX
