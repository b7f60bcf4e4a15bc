use Rattle.lagrangian_tests.proofs.repairs.no_box_is_near_where_there_is_no_room.Goals as goal

pub near-requires : goal.near-requires
near-requires g c = c.halves.ensures.low_of_job c.in_ok-job.job c.root-root.ensures.of_job
