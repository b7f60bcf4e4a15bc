-- The needs of a bill, and its goods.
use Rattle.std.specs.Prelude.{ℕ, ◌≡◌, ◌≢◌, ◌+◌, ◌*◌, ◌<◌, ◌≤◌, ◌==◌, if◌then◌else◌, List, length, slice_index}
use Rattle.std.specs.List.Sorted.{IsStrictlyIncreasing}
use Rattle.tqd_base.specs.declared.limits.TheConstants.{QTY_MAX, NAMES_MAX}
use Rattle.bom_explode.specs.Structure.{Structure}
use Rattle.tqd_base.specs.Sum.{sum_to}

-- what line l asks of name n, where each name needs what `need` says
abbrev pub share : Structure → (ℕ → ℕ) → ℕ → ℕ → ℕ
share s need n l = if s.part l == n then s.quantity l * need (s.assembly l) else 0

-- the ordered quantity of n and what all lines ask of it
abbrev pub demand : Structure → (ℕ → ℕ) → ℕ → ℕ
demand s need n = s.ordered n + sum_to s.lines (share s need n)

-- each name needs its ordered quantity and, over the lines whose part it is, the line's quantity times the need of the
-- line's assembly
pub record Solves (s : Structure) (need : ℕ → ℕ) : Type 0 where
  pub each : (n : ℕ) → n < s.names → need n ≡ demand s need n

-- a name that is the assembly of no line and is needed
pub record IsGood (s : Structure) (need : ℕ → ℕ) (n : ℕ) : Type 0 where
  pub inside : n < s.names
  pub bought : (l : ℕ) → l < s.lines → s.assembly l ≢ n
  pub needed : 1 ≤ need n

-- the goods in the order of their name numbers, with their needs
pub record AreGoods (s : Structure) (need : ℕ → ℕ) (goods units : List ℕ) : Type 0 where
  pub rising : IsStrictlyIncreasing goods
  pub each : (k : ℕ) → k < length goods → IsGood s need (slice_index goods k)
  pub all : (n : ℕ) → IsGood s need n → (k : ℕ) × (k < length goods) × (slice_index goods k ≡ n)
  pub as_many : length units ≡ length goods
  pub needs : (k : ℕ) → k < length goods → slice_index units k ≡ need (slice_index goods k)

-- n is the least name that needs more than can be counted
pub record IsLeastAbove (s : Structure) (need : ℕ → ℕ) (n : ℕ) : Type 0 where
  pub inside : n < s.names
  pub above : QTY_MAX < need n
  pub least : (m : ℕ) → m < s.names → QTY_MAX < need m → n ≤ m

-- goods and the units needed of each
pub record Needed : Type 0 where
  pub goods : List ℕ
  pub units : List ℕ

-- what all needs keep: few goods, in rising order, and a number of units of each from 1 to 100,000,000
pub record IsNeeded (needs : Needed) : Type 0 where
  pub few : length needs.goods ≤ NAMES_MAX
  pub rising : IsStrictlyIncreasing needs.goods
  pub as_many : length needs.units ≡ length needs.goods
  pub some : (k : ℕ) → k < length needs.units → 1 ≤ slice_index needs.units k
  pub most : (k : ℕ) → k < length needs.units → slice_index needs.units k ≤ QTY_MAX
