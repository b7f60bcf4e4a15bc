use Rattle.std.proofs.Common.{arith}
use Rattle.search_run.proofs.Trims.{is_end}
use Rattle.search_run.proofs.trim.Trim.end.Goals as goal

pub returns : goal.returns
returns c =
    is_end c.args.job.now c.args._area.now c.args.self.now c.args.supplier c.args.at c.args.low _ c.requires.trim
    (omega (arith, c.requires.supplier, c.suppliers.ensures.value, c.suppliers.ensures.few)) c.requires.proper c.half_of.ensures
