-- The text of the needs of a bill.
use Rattle.std.specs.Prelude.{ℕ, List, [], ◌∷◌, length, slice_index, codes, decimal}
use Rattle.tqd_base.specs.World.{Bytes}
use Rattle.plan_report.specs.Lines.{line, texts_to}
use Rattle.plan_report.specs.Named.{good_at}

-- the part and the units of good k
unfoldable pub need_text : List Bytes → List ℕ → List ℕ → ℕ → Bytes
need_text names goods units k = line (codes "need") (good_at names goods k ∷ decimal (slice_index units k) ∷ [])

-- each good in order
unfoldable pub needs_text : List Bytes → List ℕ → List ℕ → Bytes
needs_text names goods units = texts_to (length goods) (need_text names goods units)
