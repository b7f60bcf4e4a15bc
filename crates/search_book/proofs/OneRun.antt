-- A list of events has one run from each state.
use Rattle.std.proofs.Common.{◌≡◌, Bool, List, [], ◌∷◌, map, refl, ap, sym, subst, ◌∙◌}
use Rattle.search_book.specs.BookState.{BookState}
use Rattle.search_book.specs.Events.{Event, Steps}
use Rattle.search_book.specs.Runs.{Runs, IsRunOf}
use Rattle.search_book.proofs.LaterStates.{steps_to_one}
use Rattle.search_book.proofs.Decides.{steps_on}

pub run_exists : (s : BookState) (events : List Event) → (marks : List (Event × Bool)) × (t : BookState) × IsRunOf s events marks t
run_exists s [] = ([], s, record { events_are = refl; runs = refl })
run_exists s (event ∷ events) =
    let first = steps_on s event in
    let rest = run_exists first.1 events in (
      (event, first.0) ∷ rest.0,
      rest.1,
      record {
        events_are = ap (λ (es : List Event). event ∷ es) rest.2.events_are;
        runs = (first.1, first.2, rest.2.runs);
      },
    )

same_mark : (x y : Event × Bool) → x.0 ≡ y.0 → x.1 ≡ y.1 → x ≡ y
same_mark x y event applied =
    ap (λ (e : Event). let mark : Event × Bool = (e, x.1) in mark) event ∙ ap (λ (b : Bool). let mark : Event × Bool = (y.0, b) in mark) applied

-- the marks of a list of events
abbrev events_of : List (Event × Bool) → List Event
events_of marks = map (λ mark. mark.0) marks

runs_to_one : (s t u : BookState) (a b : List (Event × Bool)) → events_of a ≡ events_of b → Runs s a t → Runs s b u → (a ≡ b) × (t ≡ u)
runs_to_one s t u [] [] e h k = (refl, h ∙ sym k)
runs_to_one s t u [] (y ∷ b) e h k = absurd (cc)
runs_to_one s t u (x ∷ a) [] e h k = absurd (cc)
runs_to_one s t u (x ∷ a) (y ∷ b) e h k =
    let event : x.0 ≡ y.0 = cc in
    let rest : events_of a ≡ events_of b = cc in
    let step = steps_to_one s h.0 k.0 x.0 x.1 y.1 h.1 (subst (λ (v : Event). Steps s v y.1 k.0) (sym event) k.1) in
    let on = runs_to_one h.0 t u a b rest h.2 (subst (λ (v : BookState). Runs v b u) (sym step.1) k.2) in
    let mark = same_mark x y event step.0 in
    let marks = on.0 in
    (cc, on.1)

pub run_is_one : (s t u : BookState) (events : List Event) (a b : List (Event × Bool)) → IsRunOf s events a t → IsRunOf s events b u → (a ≡ b) × (t ≡ u)
run_is_one s t u events a b h k = runs_to_one s t u a b (h.events_are ∙ sym k.events_are) h.runs k.runs
