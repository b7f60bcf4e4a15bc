-- The nodes after one of them was marked, after a split, and after a release.
use Rattle.std.proofs.Common.{ℕ, ◌≡◌, ◌+◌, ◌<◌, ◌≢◌, List, [], ◌∷◌, ◌++◌, map, length, get_or, sum_by, sym, ap, refl, subst, ◌∙◌, inl, inr, arith, length-set, get_or-set_same, get_or-set_other, length-append}
use Rattle.std.proofs.lemmas.Bool.{cases_eq}
use Rattle.std.proofs.lemmas.List.Sums.{sum_by-set, sum_by-cons, sum_by-append}
use Rattle.std.proofs.lemmas.List.{get_or_append_left, get_or-append-add, length-map, get_or-map}
use Rattle.std.proofs.lemmas.Option.{same_Some, slice_get-get_or}
use Rattle.interval_box.specs.declared.boxes.IntervalBox.{IntervalBox}
use Rattle.search_book.specs.declared.node.Node.{Node}
use Rattle.search_book.specs.declared.node.Phase.{Phase}
use Rattle.search_book.specs.Nodes.{node_at, area_of, phase_of, HasPhase, with_phase}
use Rattle.search_book.specs.Events.{freed}

pub marked_length : (nodes : List Node) (n : ℕ) (p : Phase) → length (with_phase nodes n p) ≡ length nodes
marked_length nodes n p = length-set nodes n _

pub marked_area : (nodes : List Node) (n : ℕ) (p : Phase) (k : ℕ) → n < length nodes → area_of (with_phase nodes n p) k ≡ area_of nodes k
marked_area nodes n p k known = elim (cases_eq k n) [
  | inl here ↦ rw here (ap (λ (x : Node). x.area) (get_or-set_same nodes n _ _ known))
  | inr other ↦ ap (λ (x : Node). x.area) (get_or-set_other nodes n k _ _ other)
]

pub marked_phase : (nodes : List Node) (n : ℕ) (p : Phase) → n < length nodes → phase_of (with_phase nodes n p) n ≡ p
marked_phase nodes n p known = ap (λ (x : Node). x.phase) (get_or-set_same nodes n _ _ known)

pub marked_other : (nodes : List Node) (n : ℕ) (p : Phase) (k : ℕ) → k ≢ n → phase_of (with_phase nodes n p) k ≡ phase_of nodes k
marked_other nodes n p k other = ap (λ (x : Node). x.phase) (get_or-set_other nodes n k _ _ other)

-- a sum over the nodes loses the term of the node as it was, and gains that of the node as it is
pub marked_sum : (g : IntervalBox → Phase → ℕ) (nodes : List Node) (n : ℕ) (q p : Phase) → HasPhase nodes n q
    → sum_by (λ (x : Node). g x.area x.phase) (with_phase nodes n p) + g (area_of nodes n) q ≡ sum_by (λ (x : Node). g x.area x.phase) nodes + g (area_of nodes n) p
marked_sum g nodes n q p at =
    let all = sum_by-set (λ (x : Node). g x.area x.phase) nodes n (record { area = area_of nodes n; phase = p }) (node_at [] 0) at.known in
    subst (λ (r : Phase). sum_by (λ (x : Node). g x.area x.phase) (with_phase nodes n p) + g (area_of nodes n) r ≡ sum_by (λ (x : Node). g x.area x.phase) nodes + g (area_of nodes n) p) at.is all

-- a sum over nodes of which two were added
pub added_sum : (f : Node → ℕ) (nodes : List Node) (a b : Node) → sum_by f (nodes ++ (a ∷ b ∷ [])) ≡ sum_by f nodes + (f a + f b)
added_sum f nodes a b = omega (arith, sum_by-append f nodes (a ∷ b ∷ []), sum_by-cons f a (b ∷ []), sum_by-cons f b [])

pub added_length : (nodes : List Node) (a b : Node) → length (nodes ++ (a ∷ b ∷ [])) ≡ length nodes + 2
added_length nodes a b = length-append nodes (a ∷ b ∷ [])

pub added_before : (nodes : List Node) (a b : Node) (k : ℕ) → k < length nodes → node_at (nodes ++ (a ∷ b ∷ [])) k ≡ node_at nodes k
added_before nodes a b k below = get_or_append_left nodes (a ∷ b ∷ []) _ k below

pub added_first : (nodes : List Node) (a b : Node) (k : ℕ) → k ≡ length nodes → node_at (nodes ++ (a ∷ b ∷ [])) k ≡ a
added_first nodes a b k here = rw here (ap (λ n. node_at (nodes ++ (a ∷ b ∷ [])) n) (let e : length nodes ≡ length nodes + 0 = omega arith in e) ∙ get_or-append-add nodes (a ∷ b ∷ []) 0 _)

pub added_second : (nodes : List Node) (a b : Node) (k : ℕ) → k ≡ length nodes + 1 → node_at (nodes ++ (a ∷ b ∷ [])) k ≡ b
added_second nodes a b k here = rw here (get_or-append-add nodes (a ∷ b ∷ []) 1 _)

-- a release frees each node alone
pub freed_length : (nodes : List Node) → length (map freed nodes) ≡ length nodes
freed_length nodes = length-map nodes freed

pub freed_at : (nodes : List Node) (k : ℕ) → k < length nodes → node_at (map freed nodes) k ≡ freed (node_at nodes k)
freed_at nodes k below = get_or-map freed nodes k _ _ below

pub freed_sum : (f : Node → ℕ) → ((x : Node) → f (freed x) ≡ f x) → (nodes : List Node) → sum_by f (map freed nodes) ≡ sum_by f nodes
freed_sum f same [] = refl
freed_sum f same (x ∷ xs) = sum_by-cons f (freed x) (map freed xs) ∙ (let here = same x in let rest = freed_sum f same xs in let e : f (freed x) + sum_by f (map freed xs) ≡ f x + sum_by f xs = omega arith in e) ∙ sym (sum_by-cons f x xs)

-- what is read at a number is its node, whatever stands for one that is not there
pub read_is : (nodes : List Node) (n : ℕ) (x : Node) → n < length nodes → x ≡ get_or nodes n x → x ≡ node_at nodes n
read_is nodes n x known is = is ∙ same_Some (get_or nodes n x) (node_at nodes n) (sym (slice_get-get_or nodes n x known) ∙ slice_get-get_or nodes n _ known)
