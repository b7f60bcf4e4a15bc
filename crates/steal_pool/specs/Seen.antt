-- What contracts see of a lane, of a thief and of a pass.
use Rattle.std.specs.Prelude.{◌≡◌, ℕ, ◌≤◌, true, false, List, [], length}
use Rattle.steal_pool.specs.declared.account.Account.{Account}

-- which lane it is, its room, its parts, what its owner pushed and popped, and how many steps of its owner found it empty
pub record LaneSeen : Type 0 where
  pub lane : ℕ × ℕ
  pub room : ℕ
  pub parts : ℕ
  pub put : List ℕ
  pub got : List ℕ
  pub dry : ℕ

pub record ThiefSeen : Type 0 where
  pub lane : ℕ × ℕ

-- the lane that it is a pass of, its parts, what was stolen with it, and how many steps with it found the lane empty
pub record PassSeen : Type 0 where
  pub lane : ℕ × ℕ
  pub parts : ℕ
  pub got : List ℕ
  pub dry : ℕ

-- what no step changes
abbrev pub IsSameLane : LaneSeen → LaneSeen → Type 0
IsSameLane old new = (new.lane ≡ old.lane) × (new.room ≡ old.room) × (new.parts ≡ old.parts)

abbrev pub IsSamePass : PassSeen → PassSeen → Type 0
IsSamePass old new = (new.lane ≡ old.lane) × (new.parts ≡ old.parts)

-- what holds of an owner between its calls: it holds nothing of a pass, and the first `capacity` pushes of its deque succeed
pub record IsOwner (account : Account) (count room index capacity : ℕ) : Type 0 where
  pub owns : account.owns ≡ true
  pub holds_none : account.held ≡ []
  pub no_parts : account.parts ≡ 0
  pub counted : count ≡ length account.put
  pub in_room : count ≤ room
  pub below : index ≤ count
  pub fits : room ≤ capacity

pub record IsPass (account : Account) : Type 0 where
  pub owns_none : account.owns ≡ false
  pub holds_none : account.held ≡ []
  pub some_part : 1 ≤ account.parts
