use Rattle.std.proofs.Common.{arith}
use Rattle.tqd_base.specs.World.{Rose}
use Rattle.tqd_base.proofs.count.risen.Goals as goal

pub returns-clause-rose : goal.returns-clause-rose
unfolding Rose
returns-clause-rose c = omega (arith, c.saturating_add.ensures)

pub returns-clause-exact : goal.returns-clause-exact
returns-clause-exact c = c.saturating_add.ensures
