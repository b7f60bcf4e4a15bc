use Rattle.std.proofs.Common.{ℕ, ◌≡◌, ◌<◌, MatchOption}
use Rattle.interval_box.specs.Ranges.{low_of, high_of}
use Rattle.search_run.specs.Branches.{IsChoice}
use Rattle.search_run.proofs.branch.greatest_score.Given as goal

abbrev pub invariant-loop-supplier : goal.invariant-loop-supplier
invariant-loop-supplier l = MatchOption l.greatest
    ((i : ℕ) → i < l.supplier → low_of l.area i ≡ high_of l.area i)
    (IsChoice l.job l.area)
