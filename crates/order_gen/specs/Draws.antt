-- The states and draws of the generator, a linear congruence: a rule of this program.
use Rattle.std.specs.Prelude.{ℕ, suc, zero, ◌+◌, ◌*◌, ◌/◌, ◌%◌}

-- how many states there are: 2 ^ 31
abbrev pub STATES : ℕ
STATES = 2147483648

-- the state that a seed begins with
abbrev pub first_state : ℕ → ℕ
first_state seed = seed % STATES

-- the state after n draws from a state
unfoldable pub state_after : ℕ → ℕ → ℕ
state_after state zero = state
state_after state (suc n) = (state_after state n * 1103515245 + 12345) % STATES

-- the number that draw n, counted from 0, gives below m: the state moves first
unfoldable pub draw : ℕ → ℕ → ℕ → ℕ
draw state n m = state_after state (suc n) / 65536 % m
