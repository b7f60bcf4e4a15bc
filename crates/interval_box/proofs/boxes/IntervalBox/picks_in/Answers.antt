use Rattle.std.proofs.Common.{arith}
use Rattle.tqd_instance.proofs.Jobs.{job_in_range}
use Rattle.interval_box.proofs.boxes.IntervalBox.picks_in.Goals as goal

pub admits-requires : goal.admits-requires
admits-requires c = omega (arith, (job_in_range c.args.job.now).few_suppliers)
