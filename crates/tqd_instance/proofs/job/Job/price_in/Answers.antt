use Rattle.std.proofs.Common.{arith}
use Rattle.tqd_instance.specs.Job.{price}
use Rattle.tqd_instance.proofs.Jobs.{prices_are}
use Rattle.tqd_instance.proofs.job.Job.price_in.Goals as goal

pub get-requires : goal.get-requires
get-requires c =
    let s = prices_are c.args.self.now c.args.i c.args.j c.requires.supplier c.requires.segment in
    grind (arith, s.0)

pub returns : goal.returns
unfolding price
returns c =
    let s = prices_are c.args.self.now c.args.i c.args.j c.requires.supplier c.requires.segment in
    record { value = cc; within = grind (arith, s.1 c.args.k) }
