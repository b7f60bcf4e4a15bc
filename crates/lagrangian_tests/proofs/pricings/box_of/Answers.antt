use Rattle.lagrangian_tests.proofs.pricings.box_of.Goals as goal

pub returns : goal.returns
returns g c = c.halves.ensures.low_of_job c.args.job.now c.root-root.ensures.of_job
