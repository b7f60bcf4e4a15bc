-- Saving a text in a file, step by step, by cases on the answer.
use Rattle.std.specs.Prelude.{ℕ, ◌≡◌, ◌≤◌, Option, None, Result, Ok, Err, length, take}
use Rattle.tqd_base.specs.World.{State, Name, Bytes, NeverFall, Rose, append, name_at, set_file, set_slot}
use Rattle.tqd_base.specs.Calls.{Closes, Makes, Puts, PutsPrefix, Rests}
use Rattle.tqd_top.specs.declared.answer.NoReply.{NoReply}
use Rattle.tqd_top.specs.declared.answer.NoReply.TheVariants.{Tree, Memory}
use Rattle.tqd_top.specs.SavedTree.{IsCutShort, IsGivenCut, saved}

-- no reading failed, and no count fell
pub record IsSteady (old new : State) : Type 0 where
  pub kept : new.failed_last ≡ old.failed_last
  pub never_fall : NeverFall old.faults new.faults

-- making the file
abbrev pub MakeTreeGives : State → State → Name → Result ℕ NoReply → Type 0
MakeTreeGives old new name (Ok slot) = Makes old new name slot
MakeTreeGives old new name (Err Tree) = Rose old.faults.writing new.faults.writing × Rests old new
MakeTreeGives old new name (Err Memory) = Rests old new

-- writing to it
abbrev pub PutTreeGives : State → State → ℕ → Bytes → Result (Unit {0}) NoReply → Type 0
PutTreeGives old new slot text (Ok done) = Puts old new slot text
PutTreeGives old new slot text (Err Tree) = Rose old.faults.writing new.faults.writing × PutsPrefix old new slot text
PutTreeGives old new slot text (Err Memory) = PutsPrefix old new slot text

-- closing it
abbrev pub CloseTreeGives : State → State → ℕ → Result (Unit {0}) NoReply → Type 0
CloseTreeGives old new slot (Ok done) = Closes old new slot
CloseTreeGives old new slot (Err Tree) = Rose old.faults.writing new.faults.writing × Closes old new slot
CloseTreeGives old new slot (Err Memory) = ⊥

-- the slot's file grew by a piece, and the slot ended
pub record Fills (old new : State) (slot : ℕ) (piece : Bytes) : Type 0 where
  pub world : new.world ≡ set_slot (append old.world (name_at old.world slot) piece) slot None
  pub steady : IsSteady old new

abbrev pub FillsPrefix : State → State → ℕ → Bytes → Type 0
FillsPrefix old new slot text = (count : ℕ) × (count ≤ length text) × Fills old new slot (take count text)

-- writing to it and closing it
abbrev pub FillGives : State → State → ℕ → Bytes → Result (Unit {0}) NoReply → Type 0
FillGives old new slot text (Ok done) = Fills old new slot text
FillGives old new slot text (Err Tree) = Rose old.faults.writing new.faults.writing × FillsPrefix old new slot text
FillGives old new slot text (Err Memory) = FillsPrefix old new slot text

-- all of that, for the file of a name
abbrev pub SaveGives : State → State → Name → Bytes → Result (Unit {0}) NoReply → Type 0
SaveGives old new name text (Ok done) = IsSteady old new × (new.world ≡ set_file old.world name text)
SaveGives old new name text (Err Tree) =
    IsSteady old new × Rose old.faults.writing new.faults.writing × IsCutShort old.world new.world name text
SaveGives old new name text (Err Memory) = IsSteady old new × IsCutShort old.world new.world name text

-- the same where a file is given; without one nothing is done
abbrev pub SaveGivenGives : State → State → Option Name → Bytes → Result (Unit {0}) NoReply → Type 0
SaveGivenGives old new file text (Ok done) = IsSteady old new × (new.world ≡ saved old.world file text)
SaveGivenGives old new file text (Err Tree) =
    IsSteady old new × Rose old.faults.writing new.faults.writing × IsGivenCut old.world new.world file text
SaveGivenGives old new file text (Err Memory) = IsSteady old new × IsGivenCut old.world new.world file text
