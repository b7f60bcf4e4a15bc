use Rattle.std.proofs.Common.{refl}
use Rattle.tqd_base.specs.SureState.{sure_state}
use Rattle.tqd_base.proofs.DeskLemmas.{same_faults}
use Rattle.tqd_base.proofs.sure_desk.SureDeskDesk.close.Goals as goal

pub end-requires : goal.end-requires
end-requires c = c.requires

pub returns-clause-gives : goal.returns-clause-gives
returns-clause-gives c = record { world = c.end.ensures.world; kept = refl; never_fall = (same_faults (sure_state c.args.self.now).faults) }
