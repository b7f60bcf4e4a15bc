-- The least of a function's values at numbers in a row.
use Rattle.std.specs.Prelude.{ℕ, suc, zero, ◌+◌, ℤ}
use Rattle.std.specs.Int.{int_min}

-- the least of f a, f (a + 1), .., f (a + n)
unfoldable pub least_from : ℕ → ℕ → (ℕ → ℤ) → ℤ
least_from a zero f = f a
least_from a (suc n) f = int_min (least_from a n f) (f (a + suc n))
