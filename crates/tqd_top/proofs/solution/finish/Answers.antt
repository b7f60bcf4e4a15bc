-- A settled book has the solution and its tree.
use Rattle.tqd_top.proofs.Solutions.{finish_of}
use Rattle.tqd_top.proofs.solution.finish.Goals as goal

pub returns : goal.returns
returns c = finish_of _ _ c.finish.ensures.decided c.finish.ensures.plan c.finish.ensures.plan_stands c.finish.ensures.root c.finish.ensures.tree
