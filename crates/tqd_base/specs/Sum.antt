-- Sums of a function's values at the first numbers.
use Rattle.std.specs.Prelude.{ℕ, zero, suc, ◌+◌, ℤ, pos, ◌+ℤ◌}

-- f 0 + f 1 + .. + f (n - 1)
abbrev pub sum_to : ℕ → (ℕ → ℕ) → ℕ
sum_to zero f = 0
sum_to (suc n) f = sum_to n f + f n

-- the same sum of signed numbers
abbrev pub signed_sum_to : ℕ → (ℕ → ℤ) → ℤ
signed_sum_to zero f = pos 0
signed_sum_to (suc n) f = signed_sum_to n f +ℤ f n
