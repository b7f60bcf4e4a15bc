use Rattle.tree_tests.proofs.bounds.box_of.Goals as goal

pub returns-in-UpTo-part : goal.returns-in-UpTo-part
returns-in-UpTo-part g c = c.halves.ensures.low_of_job c.args.job.now c.root-root.ensures.of_job

pub returns-in_default : goal.returns-in_default
returns-in_default g c = c.halves.ensures.high_of_job c.args.job.now c.root-root.ensures.of_job
