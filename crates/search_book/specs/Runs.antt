-- What a list of events leads to, whoever made them and in whichever order.
use Rattle.std.specs.Prelude.{ℕ, ◌≡◌, ◌&&◌, Bool, true, false, List, [], ◌∷◌, map, count_by}
use Rattle.search_book.specs.BookState.{BookState}
use Rattle.search_book.specs.Events.{Event, take_node, improve, close_node, split_node, give_back, release, Steps}

-- events, and of each whether it applied, lead from a state s to t
abbrev pub Runs : BookState → List (Event × Bool) → BookState → Type 0
Runs s [] t = t ≡ s
Runs s (event ∷ events) t = (u : BookState) × Steps s event.0 event.1 u × Runs u events t

abbrev pub closes : Event → Bool
closes (take_node n) = false
closes (improve plan amount) = false
closes (close_node n leaf) = true
closes (split_node n i at keep_low) = false
closes (give_back n) = false
closes release = false

abbrev pub splits : Event → Bool
splits (take_node n) = false
splits (improve plan amount) = false
splits (close_node n leaf) = false
splits (split_node n i at keep_low) = true
splits (give_back n) = false
splits release = false

-- how many of the events closed a node
abbrev pub closings : List (Event × Bool) → ℕ
closings events = count_by (λ event. event.1 && closes event.0) events

-- how many of the events split a node
abbrev pub splittings : List (Event × Bool) → ℕ
splittings events = count_by (λ event. event.1 && splits event.0) events

-- a list of events, each with whether it applied, leads from a state s to t
pub record IsRunOf (s : BookState) (events : List Event) (marks : List (Event × Bool)) (t : BookState) : Type 0 where
  pub events_are : map (λ mark. mark.0) marks ≡ events
  pub runs : Runs s marks t

-- a list of events leads from a state s to t, whichever of them apply
abbrev pub Leads : BookState → List Event → BookState → Type 0
Leads s events t = (marks : List (Event × Bool)) × IsRunOf s events marks t
