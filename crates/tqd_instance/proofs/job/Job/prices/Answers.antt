use Rattle.std.proofs.Common.{arith}
use Rattle.tqd_instance.specs.Job.{price}
use Rattle.tqd_instance.proofs.Jobs.{segment_is}
use Rattle.tqd_instance.proofs.job.Job.prices.Goals as goal

pub returns : goal.returns
unfolding price
returns c =
    let s = segment_is c.args.self.now c.args.i c.args.j c.requires.supplier c.requires.some c.requires.segment in
    record { len = grind (arith, s.width); value = λ k. cc; within = λ k. grind (arith, s.prices k) }
