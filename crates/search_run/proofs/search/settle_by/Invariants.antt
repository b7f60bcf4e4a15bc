use Rattle.search_book.specs.Later.{IsLater}
use Rattle.search_book.specs.Counts.{due_size}
use Rattle.search_book.specs.Taken.{NoneTaken}
use Rattle.search_run.specs.Minds.{IsMindOf}
use Rattle.search_run.proofs.search.settle_by.Given as goal

abbrev pub invariant-loop-n : goal.invariant-loop-n
invariant-loop-n g l = record {
  none : NoneTaken l.book;
  mind : IsMindOf l.fn.book.job l.mind;
  later : IsLater l.fn.book l.book;
}

abbrev pub decreases-loop-n : goal.decreases-loop-n
decreases-loop-n g l = due_size l.book
