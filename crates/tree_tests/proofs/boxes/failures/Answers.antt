use Rattle.tree_tests.proofs.boxes.failures.Goals as goal

pub winners_fail-fails_without-requires : goal.winners_fail-fails_without-requires
winners_fail-fails_without-requires g c = c.halves.ensures.low_of_job c.in_ok-job.job c.root-root.ensures.of_job

pub is_single-requires : goal.is_single-requires
is_single-requires g c = c.halves-2.ensures.high_of_job c.in_ok-job.job (c.halves.ensures.high_of_job c.in_ok-job.job c.root-root.ensures.of_job)

pub winners_fail-fails_with-requires : goal.winners_fail-fails_with-requires
winners_fail-fails_with-requires g c = c.halves-2.ensures.high_of_job c.in_ok-job.job (c.halves.ensures.high_of_job c.in_ok-job.job c.root-root.ensures.of_job)
