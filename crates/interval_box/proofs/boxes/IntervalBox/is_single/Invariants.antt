use Rattle.std.proofs.Common.{ℕ, ◌≡◌, ◌<◌}
use Rattle.interval_box.specs.Ranges.{low_of, high_of}
use Rattle.interval_box.proofs.boxes.IntervalBox.is_single.Given as goal

abbrev pub invariant-loop-i : goal.invariant-loop-i
invariant-loop-i l = (i : ℕ) → i < l.i → low_of l.self i ≡ high_of l.self i
