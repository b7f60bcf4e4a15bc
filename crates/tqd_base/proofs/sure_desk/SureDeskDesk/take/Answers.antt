use Rattle.std.proofs.Common.{refl}
use Rattle.tqd_base.specs.SureState.{sure_state}
use Rattle.tqd_base.proofs.DeskLemmas.{same_faults}
use Rattle.tqd_base.proofs.sure_desk.SureDeskDesk.take.Goals as goal

pub take-requires-clause-reads : goal.take-requires-clause-reads
take-requires-clause-reads c = c.requires.reads

pub take-requires-clause-room : goal.take-requires-clause-room
take-requires-clause-room c = c.requires.room

pub returns-clause-gives : goal.returns-clause-gives
returns-clause-gives c = record {
  fits = c.take.ensures.fits;
  moves = c.take.ensures.moved;
  world = c.take.ensures.world;
  kept = refl;
  never_fall = (same_faults (sure_state c.args.self.now).faults);
}
