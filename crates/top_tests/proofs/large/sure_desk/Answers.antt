use Rattle.tqd_base.specs.World.{World, IsIdle}
use Rattle.tqd_base.specs.Store.{IsEmptyWorld}
use Rattle.tqd_base.specs.SureState.{sure_state}
use Rattle.top_tests.proofs.large.sure_desk.Goals as goal

idle : (w : World) → IsEmptyWorld w → IsIdle w
unfolding IsIdle
idle w empty n = empty.slots n

pub returns-in-Ok : goal.returns-in-Ok
returns-in-Ok c = idle (sure_state c.in-Ok.desk).world c.in-Ok.ensures.empty
