use Rattle.tqd_base.proofs.Written.{idle_still}
use Rattle.base_tests.proofs.desks.a_planned_write_adds_half.Goals as goal

pub copy_out-copied-requires : goal.copy_out-copied-requires
copy_out-copied-requires g c = idle_still _ _ _ c.fail.ensures.state c.in_ok-desk.ensures.empty.slots
