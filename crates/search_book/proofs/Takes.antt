-- Which nodes are Taken after an event.
use Rattle.std.proofs.Common.{ℕ, ◌≡◌, ◌≢◌, ◌+◌, ◌<◌, ◌≤◌, ◌⊎◌, Bool, true, false, List, [], ◌∷◌, length, arith, refl, ap, ◌∙◌, sym, subst, inl, inr}
use Rattle.std.specs.Prelude.{◌↔◌}
use Rattle.std.proofs.lemmas.Bool.{cases_eq}
use Rattle.interval_box.specs.declared.boxes.IntervalBox.{IntervalBox}
use Rattle.search_book.specs.declared.node.Node.{Node}
use Rattle.search_book.specs.declared.node.Phase.{Phase}
use Rattle.search_book.specs.declared.node.Phase.TheVariants.{Open, Taken, Split, Closed}
use Rattle.search_book.specs.Nodes.{phase_of, HasPhase, with_phase, IsWaiting}
use Rattle.search_book.specs.BookState.{BookState}
use Rattle.search_book.specs.Events.{Event, take_node, improve, close_node, split_node, give_back, release, marked, divided, released, freed_phase, Happens}
use Rattle.search_book.specs.Answers.{NoneOpen, IsSettled}
use Rattle.search_book.specs.Taken.{IsTaken, NoneTaken, TakenWith, TakenWithout, TakenInPlace, kept_number, TakenAfter}
use Rattle.search_book.proofs.Marks.{marked_length, marked_phase, marked_other, freed_length, freed_at}
use Rattle.search_book.proofs.Covers.{IsDivided, is_divided, Which, was_there, is_low, is_high, which}

-- a node that is not marked is Taken where it was
marked_taken : (s : BookState) (n k : ℕ) (p : Phase) → k ≢ n → IsTaken (marked s n p) k ↔ IsTaken s k
marked_taken s n k p other = (
  λ h. record { known = omega (arith, h.known, marked_length s.nodes n p); is = sym (marked_other s.nodes n p k other) ∙ h.is },
  λ h. record { known = omega (arith, h.known, marked_length s.nodes n p); is = marked_other s.nodes n p k other ∙ h.is },
)

marked_with : (s : BookState) (n : ℕ) → HasPhase s.nodes n Open → TakenWith s n (marked s n Taken)
marked_with s n at k = elim (cases_eq k n) [
  | inl here ↦ (
    λ h. inr here,
    λ h. subst (λ j. IsTaken (marked s n Taken) j) (sym here)
        (record { known = omega (arith, at.known, marked_length s.nodes n Taken); is = marked_phase s.nodes n Taken at.known }),
  )
  | inr other ↦ (
    λ h. inl ((marked_taken s n k Taken other).0 h),
    λ h. elim h [ inl before ↦ (marked_taken s n k Taken other).1 before | inr here ↦ absurd (other here) ],
  )
]

marked_without : (s : BookState) (n : ℕ) (p : Phase) → HasPhase s.nodes n Taken → p ≢ Taken → TakenWithout s n (marked s n p)
marked_without s n p at other_phase k = elim (cases_eq k n) [
  | inl here ↦ (
    λ h. absurd (other_phase (sym (marked_phase s.nodes n p at.known) ∙ sym (ap (phase_of (with_phase s.nodes n p)) here) ∙ h.is)),
    λ h. absurd (h.1 here),
  )
  | inr other ↦ (λ h. ((marked_taken s n k p other).0 h, other), λ h. (marked_taken s n k p other).1 h.0)
]

-- a node that was there is Taken after a split where it was, but for the one that is split
old_taken : (s : BookState) (n i at : ℕ) (keep_low : Bool) (ns : List Node) (k : ℕ) → IsDivided s n i at keep_low ns → k < length s.nodes
    → HasPhase ns k Taken ↔ (IsTaken s k × (k ≢ n))
old_taken s n i at keep_low ns k d there = elim (cases_eq k n) [
  | inl here ↦ (
    λ h. absurd (let split = d.here in let same = ap (phase_of ns) here in let taken = h.is in cc),
    λ h. absurd (h.1 here),
  )
  | inr other ↦ (
    λ h. (record { known = there; is = sym (d.others k there other) ∙ h.is }, other),
    λ h. record { known = omega (arith, d.len); is = d.others k there other ∙ h.0.is },
  )
]

-- the node of a half is Taken exactly where it is kept
low_taken : (s : BookState) (n i at : ℕ) (keep_low : Bool) (ns : List Node) → IsDivided s n i at keep_low ns
    → HasPhase ns (length s.nodes) Taken ↔ (keep_low ≡ true)
low_taken s n i at true ns d = (λ h. refl, λ h. record { known = omega (arith, d.len); is = ap (λ (x : Node). x.phase) d.low })
low_taken s n i at false ns d = (λ h. absurd (let half = ap (λ (x : Node). x.phase) d.low in let taken = h.is in cc), λ h. absurd (cc))

high_taken : (s : BookState) (n i at : ℕ) (keep_low : Bool) (ns : List Node) → IsDivided s n i at keep_low ns
    → HasPhase ns (length s.nodes + 1) Taken ↔ (keep_low ≡ false)
high_taken s n i at false ns d = (λ h. refl, λ h. record { known = omega (arith, d.len); is = ap (λ (x : Node). x.phase) d.high })
high_taken s n i at true ns d = (λ h. absurd (let half = ap (λ (x : Node). x.phase) d.high in let taken = h.is in cc), λ h. absurd (cc))

-- the half that is kept has a number past the nodes that there were
kept_is_new : (s : BookState) (keep_low : Bool) → length s.nodes ≤ kept_number s keep_low
kept_is_new s true = omega arith
kept_is_new s false = omega arith

low_is_kept : (s : BookState) (keep_low : Bool) → (keep_low ≡ true) ↔ (length s.nodes ≡ kept_number s keep_low)
low_is_kept s true = (λ h. refl, λ h. refl)
low_is_kept s false = (λ h. absurd (cc), λ h. absurd (omega arith))

high_is_kept : (s : BookState) (keep_low : Bool) → (keep_low ≡ false) ↔ (length s.nodes + 1 ≡ kept_number s keep_low)
high_is_kept s false = (λ h. refl, λ h. refl)
high_is_kept s true = (λ h. absurd (cc), λ h. absurd (omega arith))

-- one of the nodes of a divided state
divided_at : (s : BookState) (n i at : ℕ) (keep_low : Bool) (ns : List Node) (k : ℕ) → IsDivided s n i at keep_low ns → Which (length s.nodes) k
    → HasPhase ns k Taken ↔ ((IsTaken s k × (k ≢ n)) ⊎ (k ≡ kept_number s keep_low))
divided_at s n i at keep_low ns k d (was_there there) =
    let old = old_taken s n i at keep_low ns k d there in (
      λ h. inl (old.0 h),
      λ h. elim h [ inl before ↦ old.1 before | inr kept ↦ absurd (let past = kept_is_new s keep_low in omega arith) ],
    )
divided_at s n i at keep_low ns k d (is_low here) =
    let low = low_taken s n i at keep_low ns d in
    let kept = low_is_kept s keep_low in (
      λ h. inr (here ∙ kept.0 (low.0 (subst (λ j. HasPhase ns j Taken) here h))),
      λ h. elim h [
        | inl before ↦ absurd (let known = before.0.known in omega arith)
        | inr same ↦ subst (λ j. HasPhase ns j Taken) (sym here) (low.1 (kept.1 (sym here ∙ same)))
      ],
    )
divided_at s n i at keep_low ns k d (is_high here) =
    let high = high_taken s n i at keep_low ns d in
    let kept = high_is_kept s keep_low in (
      λ h. inr (here ∙ kept.0 (high.0 (subst (λ j. HasPhase ns j Taken) here h))),
      λ h. elim h [
        | inl before ↦ absurd (let known = before.0.known in omega arith)
        | inr same ↦ subst (λ j. HasPhase ns j Taken) (sym here) (high.1 (kept.1 (sym here ∙ same)))
      ],
    )

divided_takes : (s : BookState) (n i at : ℕ) (keep_low : Bool) → HasPhase s.nodes n Taken → TakenInPlace s n (kept_number s keep_low) (divided s n i at keep_low)
divided_takes s n i at keep_low taken =
    let d = is_divided s n i at keep_low taken.known in
    let ns = (divided s n i at keep_low).nodes in
    record {
      is_new = kept_is_new s keep_low;
      taken = λ k. (
        λ h. (divided_at s n i at keep_low ns k d (which (length s.nodes) k (omega (arith, h.known, d.len)))).0 h,
        λ h. (divided_at s n i at keep_low ns k d (which (length s.nodes) k (elim h [
          | inl before ↦ (let known = before.0.known in omega arith)
          | inr kept ↦ (let few = kept_is_low s keep_low in omega arith)
        ]))).1 h,
      );
    }
  where
    kept_is_low : (s : BookState) (keep_low : Bool) → kept_number s keep_low < length s.nodes + 2
    kept_is_low s true = omega arith
    kept_is_low s false = omega arith

freed_not_taken : (p : Phase) → freed_phase p ≢ Taken
freed_not_taken Open is = cc
freed_not_taken Taken is = cc
freed_not_taken (Split low high i at) is = cc
freed_not_taken (Closed leaf) is = cc

released_takes : (s : BookState) → NoneTaken (released s)
released_takes s k h =
    let there : k < length s.nodes = omega (arith, h.known, freed_length s.nodes) in
    freed_not_taken (phase_of s.nodes k) (sym (ap (λ (x : Node). x.phase) (freed_at s.nodes k there)) ∙ h.is)

pub happens_takes : (s t : BookState) (event : Event) → Happens s event t → TakenAfter event s t
happens_takes s t (take_node n) h = subst (TakenWith s n) (sym h.1) (marked_with s n h.0)
happens_takes s t (improve plan amount) h = subst (λ (u : BookState). TakenAfter (improve plan amount) s u) (sym h.2) (λ k. (λ g. g, λ g. g))
happens_takes s t (close_node n leaf) h = subst (TakenWithout s n) (sym h.2) (marked_without s n (Closed leaf) h.0 (λ e. cc))
happens_takes s t (split_node n i at keep_low) h = subst (TakenInPlace s n (kept_number s keep_low)) (sym h.2) (divided_takes s n i at keep_low h.0)
happens_takes s t (give_back n) h = subst (TakenWithout s n) (sym h.1) (marked_without s n Open h.0 (λ e. cc))
happens_takes s t release h = subst NoneTaken (sym h) (released_takes s)

-- the same of a book whose nodes are those that an event leads to
pub book_takes : (s u : BookState) (ns ms : List Node) (event : Event) → Happens s event (record s { nodes = ms }) → s ≡ u → ns ≡ ms
    → TakenAfter event u (record s { nodes = ns })
book_takes s u ns ms event happens view nodes =
    subst (λ (xs : List Node). TakenAfter event u (record s { nodes = xs })) (sym nodes)
    (subst (λ (x : BookState). TakenAfter event x (record s { nodes = ms })) view (happens_takes s (record s { nodes = ms }) event happens))

-- the only node of the opening state is Open
pub opening_takes : (nodes : List Node) (area : IntervalBox) → nodes ≡ (record { area = area; phase = Open }) ∷ [] → (k : ℕ) → HasPhase nodes k Taken → ⊥
opening_takes nodes area is k h =
    let first : Node = record { area = area; phase = Open } in
    let at = subst (λ (ns : List Node). HasPhase ns k Taken) is h in
    let zero : k ≡ 0 = omega (arith, at.known) in
    let taken = subst (λ j. phase_of (first ∷ []) j ≡ Taken) zero at.is in
    cc

waiting_none : (p : Phase) → p ≢ Open → p ≢ Taken → IsWaiting p → ⊥
waiting_none Open not_open not_taken waits = not_open refl
waiting_none Taken not_open not_taken waits = not_taken refl
waiting_none (Split low high i at) not_open not_taken waits = waits
waiting_none (Closed leaf) not_open not_taken waits = waits

pub settled_where_none : (s : BookState) → NoneOpen s → NoneTaken s → IsSettled s
settled_where_none s none_open none_taken = λ n below waits.
    waiting_none (phase_of s.nodes n) (none_open n below) (λ is. none_taken n (record { known = below; is = is })) waits
