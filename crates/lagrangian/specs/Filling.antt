-- How units are shared among the goods, up to a level.
use Rattle.std.specs.Prelude.{ℕ, ◌≡◌, ◌+◌, ◌-◌, ◌<◌, ◌≤◌, ◌==◌, if◌then◌else◌, List, length, slice_index}
use Rattle.tqd_base.specs.Sum.{sum_to}
use Rattle.lagrangian.specs.Levels.{goods_under}

-- so many units at a level, where that is the very one
unfoldable pub tied : ℕ → ℕ → ℕ → ℕ
tied top level cap = if level == top then cap else 0

-- the units at a level over the first n goods
unfoldable pub goods_tied : ℕ → (ℕ → ℕ) → (ℕ → ℕ) → ℕ → ℕ
goods_tied n level cap top = sum_to n (λ k. tied top (level k) (cap k))

-- units of a good: all of them under the level, none above it
pub record IsShare (top level cap units : ℕ) : Type 0 where
  pub within : units ≤ cap
  pub all_under : level < top → units ≡ cap
  pub none_above : top < level → units ≡ 0

-- units of n goods: all that are under a level, and of those at the level as many as are spare, if there are so many
pub record AreFilled (n : ℕ) (level cap : ℕ → ℕ) (top spare : ℕ) (units : List ℕ) : Type 0 where
  pub count : length units ≡ n
  pub shares : (k : ℕ) → k < n → IsShare top (level k) (cap k) (slice_index units k)
  pub total : sum_to n (slice_index units) + (spare - goods_tied n level cap top) ≡ goods_under n level cap top + spare
