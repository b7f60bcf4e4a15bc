use Rattle.std.specs.Vec.Iter.{into_iter_items}
use Rattle.search_book.specs.Later.{IsLater}
use Rattle.search_run.specs.Thoughts.{AreCuts}
use Rattle.search_run.specs.Steps.{IsRestOf}
use Rattle.search_run.proofs.commit.trim.Given as goal

abbrev pub invariant-loop-cut : goal.invariant-loop-cut
invariant-loop-cut l = record {
  can_next : (goal.iterator-loop-cut).can_next l.cut-iterator;
  is_finite : (goal.iterator-loop-cut).is_finite l.cut-iterator;
  rest : IsRestOf l.fn.book l.fn.task l.book l.rest;
  cuts : AreCuts l.book.job l.rest.area (into_iter_items l.cut-iterator);
  later : IsLater l.fn.book l.book;
}
