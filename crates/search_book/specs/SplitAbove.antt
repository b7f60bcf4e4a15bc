-- The split above a node, which made its box.
use Rattle.std.specs.Prelude.{ℕ, ◌≡◌, if◌then◌else◌}
use Rattle.interval_box.specs.declared.boxes.IntervalBox.{IntervalBox}
use Rattle.interval_box.specs.Halves.{low_half, high_half}
use Rattle.search_book.specs.declared.above.Half.{Half}
use Rattle.search_book.specs.declared.node.Phase.{Phase}
use Rattle.search_book.specs.declared.node.Phase.TheVariants.{Split}

-- the low or the high half of a box
abbrev pub half_of : Half → IntervalBox → IntervalBox
half_of half area =
    if half.is_low then low_half area half.supplier half.at else high_half area half.supplier half.at

-- a node of which this became is split, and node n has this half of its box
abbrev pub Names : Phase → ℕ → Half → Type 0
Names phase n half = (low : ℕ) × (high : ℕ)
    × (phase ≡ Split low high half.supplier half.at)
    × ((if half.is_low then low else high) ≡ n)
