use Rattle.tree_tests.proofs.boxes.places.Goals as goal

pub holds-in_low-requires-clause-of_job : goal.holds-in_low-requires-clause-of_job
holds-in_low-requires-clause-of_job g c = c.halves.ensures.low_of_job c.in_ok-job.job c.root-root.ensures.of_job

pub holds-in_high-requires-clause-of_job : goal.holds-in_high-requires-clause-of_job
holds-in_high-requires-clause-of_job g c = c.halves.ensures.high_of_job c.in_ok-job.job c.root-root.ensures.of_job
