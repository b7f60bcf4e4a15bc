-- Boxes in a stack that has room for every tree: a split takes one box off and puts its halves on.
use Rattle.std.specs.Prelude.{ℕ, ◌≡◌, ◌+◌, ◌-◌, ◌<◌, ◌≤◌, List, [], ◌∷◌, length, reverse, Vec, vec_capacity, Option, None, Some}
use Rattle.std.specs.Global.{Global}
use Rattle.tqd_base.specs.declared.limits.TheConstants.{SUPPLIERS_MAX}
use Rattle.tqd_base.specs.Sum.{sum_to}
use Rattle.interval_box.specs.declared.boxes.IntervalBox.{IntervalBox}
use Rattle.tree_checker.specs.declared.stack.TheConstants.{BOXES_MAX}
use Rattle.interval_box.specs.Ranges.{low_of, high_of}
use Rattle.interval_box.specs.Halves.{IsProper}

-- how often a box can be split, one half after another
unfoldable pub splits_left : IntervalBox → ℕ
splits_left area = sum_to SUPPLIERS_MAX (λ i. high_of area i - low_of area i)

-- a box with its 64 places
pub record HasPlaces (area : IntervalBox) : Type 0 where
  pub lows : length area.lows ≡ SUPPLIERS_MAX
  pub highs : length area.highs ≡ SUPPLIERS_MAX

-- each box can be split as often as there is room for
unfoldable pub IsRoomy : List IntervalBox → Type 0
IsRoomy [] = Unit {0}
IsRoomy (area ∷ below) = HasPlaces area × (length below + 1 + splits_left area ≤ BOXES_MAX) × IsRoomy below

pub record IsStack (boxes : Vec IntervalBox Global) : Type 0 where
  pub reserved : BOXES_MAX ≤ vec_capacity boxes
  pub roomy : IsRoomy (reverse boxes.items)

-- the box on top, where there is one
abbrev pub IsFirst : List IntervalBox → Option IntervalBox → Type 0
IsFirst [] first = first ≡ None
IsFirst (area ∷ below) first = first ≡ Some area

abbrev pub without_first : List IntervalBox → List IntervalBox
without_first [] = []
without_first (area ∷ below) = below

-- the box on top can be split so
abbrev pub IsSplitFirst : List IntervalBox → ℕ → ℕ → Type 0
IsSplitFirst [] i s = ⊥
IsSplitFirst (area ∷ below) i s = (i < SUPPLIERS_MAX) × IsProper area i s
