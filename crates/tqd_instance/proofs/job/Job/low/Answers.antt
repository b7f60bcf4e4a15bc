use Rattle.std.proofs.Common.{arith}
use Rattle.tqd_instance.specs.Job.{low, high}
use Rattle.tqd_instance.proofs.Jobs.{segment_is}
use Rattle.tqd_instance.proofs.job.Job.low.Goals as goal

pub returns : goal.returns
unfolding low high
returns c =
    let s = segment_is c.args.self.now c.args.i c.args.j c.requires.supplier c.requires.some c.requires.segment in
    record { value = cc; some = grind (arith, s.from_one); ordered = grind (arith, s.ordered) }
