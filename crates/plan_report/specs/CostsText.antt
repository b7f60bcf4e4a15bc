-- The texts of the least costs of many jobs.
use Rattle.std.specs.Prelude.{ℕ, ◌+◌, Option, Some, None, List, [], ◌∷◌, length, slice_index_or, codes, decimal}
use Rattle.money.specs.Price.{cost_text}
use Rattle.tqd_base.specs.World.{Bytes}
use Rattle.plan_report.specs.Lines.{line, texts_to}

-- the least cost of a job, or that it has no feasible purchase
unfoldable pub cost_or_none : Option ℕ → Bytes
cost_or_none (Some cost) = cost_text cost
cost_or_none None = codes "infeasible"

-- a job by its number
unfoldable pub numbered_cost : Bytes → ℕ → Option ℕ → Bytes
numbered_cost word number cost = line word (decimal number ∷ cost_or_none cost ∷ [])

-- the n-th of a list of jobs, of which the 0-th has the number first
unfoldable pub nth_cost : Bytes → ℕ → List (Option ℕ) → ℕ → Bytes
nth_cost word first costs n = numbered_cost word (first + n) (slice_index_or costs n None)

-- each in order
unfoldable pub numbered_costs : Bytes → ℕ → List (Option ℕ) → Bytes
numbered_costs word first costs = texts_to (length costs) (nth_cost word first costs)

-- scenarios are numbered from 1
unfoldable pub scenarios_text : List (Option ℕ) → Bytes
scenarios_text costs = numbered_costs (codes "scenario") 1 costs

-- the greatest number of winners of each job, from the least number of winners up
unfoldable pub winners_text : ℕ → List (Option ℕ) → Bytes
winners_text least costs = numbered_costs (codes "winners") least costs
