use Rattle.std.proofs.Common.{subst, sym}
use Rattle.lagrangian.specs.Columns.{AreSegmentsIn}
use Rattle.lagrangian.proofs.columns.Columns.add.Goals as goal

pub returns-clause-inside : goal.returns-clause-inside
returns-clause-inside c = λ low high h s. subst (AreSegmentsIn low high) (sym c.self.view_is) (c.enter-at.ensures.inside low high h s)
