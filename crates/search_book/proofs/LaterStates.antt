-- Later states.
use Rattle.std.proofs.Common.{ℕ, ◌≡◌, ◌<◌, ◌≤◌, Bool, true, false, Option, Some, None, sym, ap, refl, subst, ◌∙◌, inl, inr, arith}
use Rattle.std.specs.Prelude.{IfSome, IsSomeAnd}
use Rattle.std.proofs.lemmas.Bool.{cases_eq}
use Rattle.tqd_instance.specs.declared.plan.Plan.{Plan}
use Rattle.search_book.specs.declared.node.Node.{Node}
use Rattle.search_book.specs.declared.node.Phase.{Phase}
use Rattle.search_book.specs.declared.node.Phase.TheVariants.{Open, Taken, Split, Closed}
use Rattle.search_book.specs.Nodes.{phase_of, HasPhase, with_phase}
use Rattle.search_book.specs.BookState.{BookState, best_cost}
use Rattle.search_book.specs.Events.{Event, take_node, improve, close_node, split_node, give_back, release, IsBelowBest, marked, divided, released, freed_phase, Happens, Steps}
use Rattle.search_book.specs.Later.{StaysSettled, IsLater}
use Rattle.search_book.proofs.Marks.{marked_length, marked_area, marked_phase, marked_other, freed_length, freed_at}
use Rattle.search_book.proofs.Covers.{is_divided}

stays_same : (p : Phase) → StaysSettled p p
stays_same Open = tt
stays_same Taken = tt
stays_same (Split low high i at) = refl
stays_same (Closed leaf) = refl

stays_on : (p q r : Phase) → StaysSettled p q → StaysSettled q r → StaysSettled p r
stays_on Open q r a b = tt
stays_on Taken q r a b = tt
stays_on (Split low high i at) q r a b = subst (λ (x : Phase). StaysSettled x r) a b
stays_on (Closed leaf) q r a b = subst (λ (x : Phase). StaysSettled x r) a b

best_same : (best : Option ℕ) → IfSome best (λ before. IsSomeAnd best (λ after. after ≤ before))
best_same None = tt
best_same (Some c) = omega arith

best_on : (a b c : Option ℕ) → IfSome a (λ before. IsSomeAnd b (λ after. after ≤ before)) → IfSome b (λ before. IsSomeAnd c (λ after. after ≤ before)) → IfSome a (λ before. IsSomeAnd c (λ after. after ≤ before))
best_on None b c g h = tt
best_on (Some x) None c g h = absurd g
best_on (Some x) (Some y) None g h = absurd h
best_on (Some x) (Some y) (Some z) g h = omega arith

best_below : (best : Option ℕ) (amount : ℕ) → IfSome best (λ c. amount < c) → IfSome best (λ before. amount ≤ before)
best_below None amount h = tt
best_below (Some c) amount h = omega arith

pub later_refl : (s : BookState) → IsLater s s
later_refl s = record {
  job = refl;
  nodes = omega arith;
  areas = λ n below. refl;
  phases = λ n below. stays_same (phase_of s.nodes n);
  best = best_same (best_cost s);
}

pub later_trans : (s t u : BookState) → IsLater s t → IsLater t u → IsLater s u
later_trans s t u a b = record {
  job = b.job ∙ a.job;
  nodes = omega (arith, a.nodes, b.nodes);
  areas = λ n below. b.areas n (omega (arith, a.nodes)) ∙ a.areas n below;
  phases = λ n below. stays_on (phase_of s.nodes n) (phase_of t.nodes n) (phase_of u.nodes n) (a.phases n below) (b.phases n (omega (arith, a.nodes)));
  best = best_on (best_cost s) (best_cost t) (best_cost u) a.best b.best;
}

-- a node that is Open or Taken is marked
later_marked : (s : BookState) (n : ℕ) (q p : Phase) → HasPhase s.nodes n q → StaysSettled q p → IsLater s (marked s n p)
later_marked s n q p at stays = record {
  job = refl;
  nodes = omega (arith, marked_length s.nodes n p);
  areas = λ k below. marked_area s.nodes n p k at.known;
  phases = λ k below. elim (cases_eq k n) [
    | inl here ↦ subst (λ j. StaysSettled (phase_of s.nodes j) (phase_of (with_phase s.nodes n p) j)) (sym here)
        (subst (λ (r : Phase). StaysSettled r (phase_of (with_phase s.nodes n p) n)) (sym at.is) (subst (λ (r : Phase). StaysSettled q r) (sym (marked_phase s.nodes n p at.known)) stays))
    | inr other ↦ subst (λ (r : Phase). StaysSettled (phase_of s.nodes k) r) (sym (marked_other s.nodes n p k other)) (stays_same (phase_of s.nodes k))
  ];
  best = best_same (best_cost s);
}

later_improved : (s : BookState) (plan : Plan) (amount : ℕ) → IsBelowBest s amount → IsLater s (record s { best = Some (plan, amount) })
later_improved s plan amount below = record {
  job = refl;
  nodes = omega arith;
  areas = λ n known. refl;
  phases = λ n known. stays_same (phase_of s.nodes n);
  best = best_below (best_cost s) amount below;
}

later_divided : (s : BookState) (n i at : ℕ) (keep_low : Bool) → HasPhase s.nodes n Taken → IsLater s (divided s n i at keep_low)
later_divided s n i at keep_low taken =
    let d = is_divided s n i at keep_low taken.known in
    let ns = (divided s n i at keep_low).nodes in
    record {
      job = refl;
      nodes = omega (arith, d.len);
      areas = d.areas;
      phases = λ k below. elim (cases_eq k n) [
        | inl here ↦ subst (λ j. StaysSettled (phase_of s.nodes j) (phase_of ns j)) (sym here) (subst (λ (r : Phase). StaysSettled r (phase_of ns n)) (sym taken.is) tt)
        | inr other ↦ subst (λ (r : Phase). StaysSettled (phase_of s.nodes k) r) (sym (d.others k below other)) (stays_same (phase_of s.nodes k))
      ];
      best = best_same (best_cost s);
    }

stays_freed : (p : Phase) → StaysSettled p (freed_phase p)
stays_freed Open = tt
stays_freed Taken = tt
stays_freed (Split low high i at) = refl
stays_freed (Closed leaf) = refl

later_released : (s : BookState) → IsLater s (released s)
later_released s = record {
  job = refl;
  nodes = omega (arith, freed_length s.nodes);
  areas = λ k below. ap (λ (x : Node). x.area) (freed_at s.nodes k below);
  phases = λ k below. subst (λ (r : Phase). StaysSettled (phase_of s.nodes k) r) (sym (ap (λ (x : Node). x.phase) (freed_at s.nodes k below))) (stays_freed (phase_of s.nodes k));
  best = best_same (best_cost s);
}

pub happens_later : (s t : BookState) (event : Event) → Happens s event t → IsLater s t
happens_later s t (take_node n) h = subst (IsLater s) (sym h.1) (later_marked s n Open Taken h.0 tt)
happens_later s t (improve plan amount) h = subst (IsLater s) (sym h.2) (later_improved s plan amount h.1)
happens_later s t (close_node n leaf) h = subst (IsLater s) (sym h.2) (later_marked s n Taken (Closed leaf) h.0 tt)
happens_later s t (split_node n i at keep_low) h = subst (IsLater s) (sym h.2) (later_divided s n i at keep_low h.0)
happens_later s t (give_back n) h = subst (IsLater s) (sym h.1) (later_marked s n Taken Open h.0 tt)
happens_later s t release h = subst (IsLater s) (sym h) (later_released s)

pub steps_later : (s t : BookState) (event : Event) (applied : Bool) → Steps s event applied t → IsLater s t
steps_later s t event true h = happens_later s t event h
steps_later s t event false h = subst (IsLater s) (sym h.1) (later_refl s)

-- an event that applies leads to one state
happens_to_one : (s t u : BookState) (event : Event) → Happens s event t → Happens s event u → t ≡ u
happens_to_one s t u (take_node n) h k = h.1 ∙ sym k.1
happens_to_one s t u (improve plan amount) h k = h.2 ∙ sym k.2
happens_to_one s t u (close_node n leaf) h k = h.2 ∙ sym k.2
happens_to_one s t u (split_node n i at keep_low) h k = h.2 ∙ sym k.2
happens_to_one s t u (give_back n) h k = h.1 ∙ sym k.1
happens_to_one s t u release h k = h ∙ sym k

pub steps_to_one : (s t u : BookState) (event : Event) (applied also : Bool) → Steps s event applied t → Steps s event also u → (applied ≡ also) × (t ≡ u)
steps_to_one s t u event true true h k = (refl, happens_to_one s t u event h k)
steps_to_one s t u event true false h k = absurd (k.0 t h)
steps_to_one s t u event false true h k = absurd (h.0 u k)
steps_to_one s t u event false false h k = (refl, h.1 ∙ sym k.1)
