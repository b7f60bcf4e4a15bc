use Rattle.std.proofs.Common.{ℕ, ◌<◌, ◌≡◌, get_or, IsSomeAnd}
use Rattle.tqd_instance.specs.declared.parts.ShareRow.{ShareRow}
use Rattle.tqd_instance.proofs.build.has_bad_share.Given as goal

abbrev pub invariant-loop-row : goal.invariant-loop-row
invariant-loop-row l = (k : ℕ) (d : ShareRow) → k < l.row-index → (get_or l.row-items k d).supplier ≡ l.i
    → IsSomeAnd (get_or l.row-items k d).high (λ high. high < (get_or l.row-items k d).low) → ⊥
