use Rattle.std.proofs.Common.{arith}
use Rattle.tqd_instance.specs.Job.{low, high}
use Rattle.tqd_instance.proofs.Jobs.{segment_is}
use Rattle.tqd_instance.proofs.job.Job.high.Goals as goal

pub returns : goal.returns
unfolding low high
returns c =
    let s = segment_is c.args.self.now c.args.i c.args.j c.requires.supplier c.requires.some c.requires.segment in
    record { value = cc; ordered = grind (arith, s.ordered); within = grind (arith, s.within) }
