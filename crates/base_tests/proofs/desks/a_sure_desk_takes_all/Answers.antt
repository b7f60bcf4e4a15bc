use Rattle.tqd_base.proofs.Written.{idle_has_no_slot}
use Rattle.base_tests.proofs.desks.a_sure_desk_takes_all.Goals as goal

pub copy_out-requires : goal.copy_out-requires
copy_out-requires g c = idle_has_no_slot _ _ c.in_ok-desk.ensures.empty.slots
