use Rattle.search_book.specs.Later.{IsLater}
use Rattle.search_run.specs.Minds.{IsMindOf}
use Rattle.search_run.specs.Steps.{IsLeftOf, left_effort}
use Rattle.search_run.proofs.search.work.Given as goal

abbrev pub invariant-loop-left : goal.invariant-loop-left
invariant-loop-left g l = record {
  left : IsLeftOf l.fn.book l.fn.n l.book l.left;
  mind : IsMindOf l.fn.book.job l.mind;
  later : IsLater l.fn.book l.book;
}

abbrev pub decreases-loop-left : goal.decreases-loop-left
decreases-loop-left g l = left_effort l.book l.left
