-- The book is one of the job.
use Rattle.tqd_top.proofs.Solutions.{finished_as}
use Rattle.tqd_top.proofs.solution.search.Goals as goal

pub returns : goal.returns
returns g c = finished_as _ _ _ c.in_ok-book.ensures.job c.finish.ensures
