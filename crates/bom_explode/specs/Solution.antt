-- The needs of a structure without a circle, as a function.
use Rattle.std.specs.Prelude.{ℕ, zero, suc, ◌≡◌, ◌+◌, ◌<◌, min, List, length, slice_index}
use Rattle.bom_explode.specs.declared.amounts.TheConstants.{TOO_MANY}
use Rattle.bom_explode.specs.Structure.{Structure}
use Rattle.bom_explode.specs.Needs.{share, demand}
use Rattle.tqd_base.specs.Sum.{sum_to}

-- the needs as far as chains of fewer than k lines bring them
abbrev pub needs_within : Structure → ℕ → ℕ → ℕ
needs_within s zero n = 0
needs_within s (suc k) n = demand s (needs_within s k) n

-- no chain has as many lines as there are names
unfoldable pub need_of : Structure → ℕ → ℕ
need_of s n = needs_within s s.names n

-- the needs, with TOO_MANY in place of each that is greater
pub record AreCapped (s : Structure) (amounts : List ℕ) : Type 0 where
  pub names : length amounts ≡ s.names
  pub each : (n : ℕ) → n < s.names → slice_index amounts n ≡ min (need_of s n) TOO_MANY

-- what n needs of `rest` units and by the lines below the cursor, with the rest as `total`
pub record IsTotal (s : Structure) (n cursor total : ℕ) : Type 0 where
  pub rest : ℕ
  pub whole : rest + sum_to cursor (share s (need_of s) n) ≡ demand s (need_of s) n
  pub capped : total ≡ min rest TOO_MANY
