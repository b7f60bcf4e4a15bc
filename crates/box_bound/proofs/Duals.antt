-- What the arcs of a net come to at node numbers that fit a circulation, and at those of a cut.
use Rattle.std.proofs.Common.{ℕ, ◌≡◌, ◌+◌, ◌*◌, ◌<◌, ◌&&◌, not, Bool, if◌then◌else◌, ℤ, pos, ◌+ℤ◌, ◌-ℤ◌, ◌≤ℤ◌, ◌<ℤ◌, length, refl, arith, suc, zero}
use Rattle.std.proofs.lemmas.Int.{ints}
use borrow.Author.Differences.{up, down}
use Rattle.tqd_base.specs.Sum.{sum_to, signed_sum_to}
use Rattle.tqd_instance.proofs.SumLemmas.{sum_to-same, sum_to-add, sum_to-zero, sum_to-suc}
use Rattle.mcf_lower.specs.Net.{Network, IsNetwork, arc_of}
use Rattle.mcf_lower.specs.Circulation.{IsCirculation, IsCut, Fits, cost, reduced_cost}
use Rattle.mcf_lower.proofs.Circulations.{weighed_balance}
use Rattle.mcf_lower.proofs.Sums.{signed_sum_to-is}
use Rattle.bound_tree.proofs.SignedSums.{signed_sum_to-zero, signed_sum_to-suc}
use Rattle.box_bound.proofs.Signs.{fitting, crossing}
use Rattle.box_bound.proofs.Values.{arc_dual, net_dual}

-- what bounds each value from below by a difference bounds the sum
signed_sum_to-above : (n : ℕ) (f : ℕ → ℤ) (a b : ℕ → ℕ) → ((k : ℕ) → k < n → pos (a k) ≤ℤ (f k +ℤ pos (b k))) → pos (sum_to n a) ≤ℤ (signed_sum_to n f +ℤ pos (sum_to n b))
signed_sum_to-above zero f a b le = omega (arith, ints, signed_sum_to-zero f, sum_to-zero a, sum_to-zero b)
signed_sum_to-above (suc n) f a b le =
    let rest = signed_sum_to-above n f a b (λ k below. le k (omega arith)) in
    let last = le n (omega arith) in
    omega (arith, ints, signed_sum_to-suc n f, sum_to-suc n a, sum_to-suc n b)

-- what a unit on an arc gains and loses, where a number below 0 counts on the other side
abbrev gains : Network → (ℕ → ℤ) → ℕ → ℕ
gains net number a = (arc_of net a).cost + up (number (arc_of net a).tail) + down (number (arc_of net a).head)

abbrev losses : Network → (ℕ → ℤ) → ℕ → ℕ
losses net number a = down (number (arc_of net a).tail) + up (number (arc_of net a).head)

-- over a circulation the numbers of the nodes cancel
cancelled : (net : Network) → IsNetwork net → (number : ℕ → ℤ) → (flow : ℕ → ℕ) → IsCirculation net flow
    → sum_to (length net.arcs) (λ a. gains net number a * flow a) ≡ cost net flow + sum_to (length net.arcs) (λ a. losses net number a * flow a)
cancelled net w number flow f =
    let m = length net.arcs in
    let c : ℕ → ℕ = λ a. (arc_of net a).cost in
    let t : ℕ → ℕ = λ a. (arc_of net a).tail in
    let h : ℕ → ℕ = λ a. (arc_of net a).head in
    let x1 = sum_to-same m (λ a. gains net number a * flow a) (λ a. (c a * flow a + up (number (t a)) * flow a) + down (number (h a)) * flow a) (λ a l. omega arith) in
    let x2 = sum_to-add m (λ a. c a * flow a + up (number (t a)) * flow a) (λ a. down (number (h a)) * flow a) in
    let x3 = sum_to-add m (λ a. c a * flow a) (λ a. up (number (t a)) * flow a) in
    let y1 = sum_to-same m (λ a. losses net number a * flow a) (λ a. down (number (t a)) * flow a + up (number (h a)) * flow a) (λ a l. omega arith) in
    let y2 = sum_to-add m (λ a. down (number (t a)) * flow a) (λ a. up (number (h a)) * flow a) in
    let u = weighed_balance net w flow f (λ v. up (number v)) in
    let d = weighed_balance net w flow f (λ v. down (number v)) in
    omega arith

-- at numbers that fit a circulation the arcs come to its cost
pub fits_reach : (net : Network) → IsNetwork net → (number : ℕ → ℤ) (flow : ℕ → ℕ) → IsCirculation net flow → Fits net flow number
    → pos (cost net flow) ≤ℤ net_dual net number (λ a. (arc_of net a).cost)
fits_reach net w number flow f fit =
    let m = length net.arcs in
    let above = signed_sum_to-above m (λ a. arc_dual number (arc_of net a).cost (arc_of net a)) (λ a. gains net number a * flow a) (λ a. losses net number a * flow a)
    (λ a l. fitting (reduced_cost net number a) (gains net number a) (losses net number a) (arc_of net a).low (arc_of net a).cap (flow a) (omega (arith, ints))
    (fit.low a l) (fit.cap a l)) in
    let same = cancelled net w number flow f in
    omega (arith, ints)

-- at the numbers of a cut, 1 in the set and 0 outside less that of a node, they come to more than 0
pub cut_above : (net : Network) (has : ℕ → Bool) (base : ℕ) (number : ℕ → ℤ) → IsNetwork net
    → ((v : ℕ) → v < net.nodes → number v ≡ pos (if has v then 1 else 0) -ℤ pos base) → IsCut net has → pos 0 <ℤ net_dual net number (λ a. 0)
cut_above net has base number w is cut =
    let m = length net.arcs in
    let t : ℕ → ℕ = λ a. (arc_of net a).tail in
    let h : ℕ → ℕ = λ a. (arc_of net a).head in
    let all = signed_sum_to-is m (λ a. arc_dual number 0 (arc_of net a))
    (λ a. if has (t a) && not (has (h a)) then (arc_of net a).low else 0) (λ a. if not (has (t a)) && has (h a) then (arc_of net a).cap else 0)
    (λ a l. crossing (has (t a)) (has (h a)) base (arc_of net a).low (arc_of net a).cap _ (at a l)) in
    omega (arith, ints)
  where
    at : (a : ℕ) → a < length net.arcs → pos 0 +ℤ number (arc_of net a).tail -ℤ number (arc_of net a).head
        ≡ pos 0 +ℤ (pos (if has (arc_of net a).tail then 1 else 0) -ℤ pos base) -ℤ (pos (if has (arc_of net a).head then 1 else 0) -ℤ pos base)
    at a l = rw (is (arc_of net a).tail (w.each a l).tail, is (arc_of net a).head (w.each a l).head) refl
