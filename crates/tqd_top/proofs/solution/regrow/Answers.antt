-- The book is later than the graft of the text.
use Rattle.std.proofs.Common.{◌∙◌}
use Rattle.tqd_top.proofs.Solutions.{regrown}
use Rattle.tqd_top.proofs.solution.regrow.Goals as goal

pub returns : goal.returns
returns g c = regrown _ _ _ _ _ (c.settle_by.ensures.job ∙ c.in_ok-book.ensures.job) c.in_ok-book.ensures.graft c.settle_by.ensures.later c.finish.ensures
