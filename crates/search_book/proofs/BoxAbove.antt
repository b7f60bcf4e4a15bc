-- The box of a node of a covered state is the half that the split above it made, and the root's where none is above.
use Rattle.std.proofs.Common.{ℕ, ◌≡◌, ◌<◌, ◌≤◌, Bool, true, false, [], length, sym, refl, subst, inl, inr, arith}
use Rattle.std.specs.Prelude.{if◌then◌else◌}
use Rattle.std.proofs.lemmas.Bool.{cases_eq, cases_lt, ne_eqb}
use Rattle.tqd_base.specs.declared.limits.TheConstants.{SUPPLIERS_MAX}
use Rattle.interval_box.specs.declared.boxes.IntervalBox.{IntervalBox}
use Rattle.interval_box.specs.Ranges.{IsRoot}
use Rattle.interval_box.specs.Halves.{IsProper, low_half, high_half}
use Rattle.interval_box.proofs.Root.{root_is_one}
use Rattle.search_book.specs.declared.above.Half.{Half}
use Rattle.search_book.specs.declared.node.Node.{Node}
use Rattle.search_book.specs.declared.node.Phase.{Phase}
use Rattle.search_book.specs.declared.node.Phase.TheVariants.{Open, Taken, Split, Closed}
use Rattle.search_book.specs.Nodes.{node_at, area_of, phase_of}
use Rattle.search_book.specs.BookState.{BookState}
use Rattle.search_book.specs.Counts.{names, naming_count}
use Rattle.search_book.specs.Covered.{IsSplitInto, PhaseHolds, IsCovered}
use Rattle.search_book.specs.SplitAbove.{half_of, Names}
use Rattle.search_book.proofs.Covers.{sum_of_zeros}
use Rattle.search_book.proofs.Keeps.{box_place}

-- the split of node k into node n
split_at : (s : BookState) (n k : ℕ) (half : Half) → IsCovered s → k < length s.nodes → (h : Names (phase_of s.nodes k) n half)
    → IsSplitInto s.nodes k h.0 h.1 half.supplier half.at
split_at s n k half c known h = subst (λ (p : Phase). PhaseHolds s k p) h.2 (c.phases k known)

pub above_is_proper : (s : BookState) (n k : ℕ) (half : Half) → IsCovered s → k < length s.nodes → Names (phase_of s.nodes k) n half
    → IsProper (area_of s.nodes k) half.supplier half.at
above_is_proper s n k half c known h = (split_at s n k half c known h).proper

pub above_has_place : (s : BookState) (n k : ℕ) (half : Half) → IsCovered s → k < length s.nodes → Names (phase_of s.nodes k) n half
    → half.supplier < SUPPLIERS_MAX
above_has_place s n k half c known h =
    box_place s.job (area_of s.nodes k) half.supplier half.at (c.boxes k known) (above_is_proper s n k half c known h)

made : (s : BookState) (n k low high supplier at : ℕ) (is_low : Bool) → IsSplitInto s.nodes k low high supplier at → (if is_low then low else high) ≡ n
    → area_of s.nodes n ≡ half_of (record { supplier = supplier; at = at; is_low = is_low }) (area_of s.nodes k)
made s n k low high supplier at true d here = subst (λ m. area_of s.nodes m ≡ low_half (area_of s.nodes k) supplier at) here d.low_area
made s n k low high supplier at false d here = subst (λ m. area_of s.nodes m ≡ high_half (area_of s.nodes k) supplier at) here d.high_area

pub above_made : (s : BookState) (n k : ℕ) (half : Half) → IsCovered s → k < length s.nodes → Names (phase_of s.nodes k) n half
    → area_of s.nodes n ≡ half_of half (area_of s.nodes k)
above_made s n k half c known h = made s n k h.0 h.1 half.supplier half.at half.is_low (split_at s n k half c known h) h.3

-- a node names none before it, and not itself
names_none_before : (s : BookState) (n k : ℕ) (p : Phase) → PhaseHolds s k p → n ≤ k → names n p ≡ 0
names_none_before s n k Open h past = refl
names_none_before s n k Taken h past = refl
names_none_before s n k (Split low high i at) h past =
    let a : low ≡ n → ⊥ = λ e. omega (arith, h.low_later) in
    let b : high ≡ n → ⊥ = λ e. omega (arith, h.high_later) in
    rw (ne_eqb low n a, ne_eqb high n b)
names_none_before s n k (Closed leaf) h past = refl

pub none_above : (s : BookState) (n : ℕ) → IsCovered s → n < length s.nodes → ((k : ℕ) → k < n → names n (phase_of s.nodes k) ≡ 0) → n ≡ 0
unfolding naming_count
none_above s n c known none = elim (cases_eq n 0) [
  | inl first ↦ first
  | inr later ↦
      let zero = sum_of_zeros (λ (x : Node). names n x.phase) (node_at [] 0) s.nodes (λ k below. elim (cases_lt k n) [
        | inl before ↦ none k before
        | inr past ↦ names_none_before s n k (phase_of s.nodes k) (c.phases k below) (omega arith)
      ]) in
      let one = c.named n (omega arith) known in
      absurd (omega arith)
]

pub root_is : (s : BookState) (n : ℕ) (root : IntervalBox) → IsCovered s → n ≡ 0 → IsRoot s.job root → area_of s.nodes n ≡ root
root_is s n root c first whole = subst (λ m. area_of s.nodes m ≡ root) (sym first) (root_is_one s.job (area_of s.nodes 0) root c.root whole)
