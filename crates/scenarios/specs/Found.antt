-- What workers found of the costs of numbered jobs.
use Rattle.std.specs.Prelude.{ℕ, ◌<◌, List, slice_index_or, Option, None, IfSome}
use Rattle.std.specs.List.{All}
use Rattle.scenarios.specs.declared.shared.Found.{Found}

-- each cost that was found is that of a job
abbrev pub AreFound : ℕ → (ℕ → Option ℕ → Type 0) → List Found → Type 0
AreFound count costs = All (λ (f : Found). (f.at < count) × costs f.at f.cost)

-- each cost that is known is that of its job
abbrev pub AreKnown : (ℕ → Option ℕ → Type 0) → List (Option (Option ℕ)) → Type 0
AreKnown costs known = (at : ℕ) → IfSome (slice_index_or known at None) (costs at)
