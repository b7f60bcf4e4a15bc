-- The stages of the work on a box.
use Rattle.std.specs.Prelude.{ℕ}
use Rattle.search_run.specs.declared.thought.Stage.{Stage}
use Rattle.search_run.specs.declared.thought.Stage.TheVariants.{Enter, Winners, Totals, Climb, Weighted, Least, Worths, Split}

-- how many stages follow
abbrev pub rank : Stage → ℕ
rank Enter = 7
rank Winners = 6
rank Totals = 5
rank Climb = 4
rank Weighted = 3
rank Least = 2
rank Worths = 1
rank Split = 0
