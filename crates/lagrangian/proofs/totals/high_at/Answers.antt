use Rattle.std.proofs.Common.{sym}
use Rattle.lagrangian.proofs.Repairs.{high_none}
use Rattle.lagrangian.proofs.totals.high_at.Goals as goal

pub returns-then-j-eq0-clause-value : goal.returns-then-j-eq0-clause-value
returns-then-j-eq0-clause-value c = sym (high_none c.args.job.now c.args.i c.args.j c.requires.supplier c.if-j-eq0.true)
