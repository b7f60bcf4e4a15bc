use Rattle.std.proofs.Common.{◌≡◌, ℕ, ◌<◌, ◌≤◌, get_or, List, Option, None, Some}
use Rattle.flow_prices.specs.declared.narrow.TheConstants.{UNMADE}
use Rattle.flow_prices.proofs.narrow.least.Given as goal

abbrev Known : List ℕ → List ℕ → Option ℕ → ℕ → ℕ → Type 0
Known numbers narrowed None low n = low ≡ UNMADE
Known numbers narrowed (Some b) low n = record { inside : b < n; unmade : get_or narrowed b 0 ≡ UNMADE; is : low ≡ get_or numbers b 0 }

abbrev pub invariant-loop-v : goal.invariant-loop-v
invariant-loop-v l = record {
  low : (k : ℕ) → k < l.v → get_or l.narrowed k 0 ≡ UNMADE → l.low ≤ get_or l.numbers k 0;
  best : Known l.numbers l.narrowed l.best l.low l.v;
}
