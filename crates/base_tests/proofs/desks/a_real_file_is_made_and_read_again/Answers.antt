use Rattle.tqd_base.specs.World.{IsIdle}
use Rattle.tqd_base.proofs.Written.{idle_has_no_slot}
use Rattle.base_tests.proofs.desks.a_real_file_is_made_and_read_again.Goals as goal

pub copy_out-requires : goal.copy_out-requires
unfolding IsIdle
copy_out-requires g c = idle_has_no_slot _ _ c.new-desk.ensures.idle
