use Rattle.std.proofs.Common.{arith}
use Rattle.tqd_instance.proofs.Jobs.{supplier_is}
use Rattle.tqd_instance.proofs.job.Job.pick.Goals as goal

pub overflow_cast-result : goal.overflow_cast-result
overflow_cast-result c =
    let s = supplier_is c.args.self.now c.args.i c.requires in
    grind (arith, s.few)
