use Rattle.std.proofs.Common.{refl}
use Rattle.tqd_base.proofs.DeskLemmas.{same_state}
use Rattle.tqd_base.proofs.memory_desk.MemoryDesk.piece.Goals as goal

pub bound-requires : goal.bound-requires
bound-requires c = c.requires

pub returns-clause-state : goal.returns-clause-state
returns-clause-state c = same_state _ _ c.bound.ensures.world refl c.bound.ensures.failed
