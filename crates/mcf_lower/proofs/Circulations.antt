use Rattle.std.proofs.Common.{◌≡◌, ℕ, zero, suc, ◌+◌, ◌-◌, ◌*◌, ◌<◌, ◌≤◌, ◌&&◌, not, if◌then◌else◌, Bool, true, false, length, sym, ap, ◌∙◌, ⊎_elim, arith, ℤ, pos, ◌-ℤ◌, ◌*ℤ◌, ◌<ℤ◌, int_lt}
use Rattle.std.proofs.lemmas.Bool.{cases_lt}
use Rattle.std.proofs.lemmas.Int.{ints}
use lib.IntN.{negsuc, neg_ℤ, pos-*ℤ-pos, negsuc-*ℤ-pos, zero-*ℤ}
use borrow.Author.Differences.{up, down}
use Rattle.tqd_base.specs.Sum.{sum_to}
use Rattle.mcf_lower.specs.Net.{Network, IsNetwork, arc_of}
use Rattle.mcf_lower.specs.Circulation.{IsCirculation, cost, reduced_cost, inflow, outflow}
use Rattle.mcf_lower.specs.Laws.{CutExcludes, WeakDuality, FitsCheapest}
use Rattle.mcf_lower.proofs.Sums.{sum_to-ext, sum_to-le, sum_to-add, sum_to-swap, signed_sum_to-is}

-- weighed by nodes, a circulation brings what it takes
pub weighed_balance : (net : Network) → IsNetwork net → (flow : ℕ → ℕ) → IsCirculation net flow → (w : ℕ → ℕ)
    → sum_to (length net.arcs) (λ a. w (arc_of net a).head * flow a) ≡ sum_to (length net.arcs) (λ a. w (arc_of net a).tail * flow a)
weighed_balance net n flow f w =
    sym (sum_to-swap net.nodes (length net.arcs) w flow (λ a. (arc_of net a).head) (λ a l. (n.each a l).head))
    ∙ sum_to-ext net.nodes (λ v. w v * inflow net flow v) (λ v. w v * outflow net flow v) (λ v l. ap (λ x. w v * x) (f.balance v l))
    ∙ sum_to-swap net.nodes (length net.arcs) w flow (λ a. (arc_of net a).tail) (λ a l. (n.each a l).tail)

crossing : (t h : Bool) (low cap f : ℕ) → low ≤ f → f ≤ cap
    → (if t && not h then low else 0) + (if h then 1 else 0) * f ≤ (if not t && h then cap else 0) + (if t then 1 else 0) * f
crossing true true low cap f l c = omega arith
crossing true false low cap f l c = omega arith
crossing false true low cap f l c = omega arith
crossing false false low cap f l c = omega arith

pub cut_excludes : CutExcludes
cut_excludes net n has cut flow f =
    let m = length net.arcs in
    let o : ℕ → ℕ = λ a. if has (arc_of net a).tail && not (has (arc_of net a).head) then (arc_of net a).low else 0 in
    let i : ℕ → ℕ = λ a. if not (has (arc_of net a).tail) && has (arc_of net a).head then (arc_of net a).cap else 0 in
    let h : ℕ → ℕ = λ a. (if has (arc_of net a).head then 1 else 0) * flow a in
    let t : ℕ → ℕ = λ a. (if has (arc_of net a).tail then 1 else 0) * flow a in
    let s = sum_to-le m (λ a. o a + h a) (λ a. i a + t a)
    (λ a l. crossing (has (arc_of net a).tail) (has (arc_of net a).head) (arc_of net a).low (arc_of net a).cap (flow a) (f.low a l) (f.cap a l)) in
    let b = weighed_balance net n flow f (λ v. if has v then 1 else 0) in
    let p = sum_to-add m o h in
    let q = sum_to-add m i t in
    omega arith

gain : (x d g e : ℕ) → x * (g + e) + (x + d) * g ≤ (x + d) * (g + e) + x * g
gain x d g e = omega arith

-- what is more is better taken more often
pub rearranged : (x y g b : ℕ) → x ≤ y → g ≤ b → x * b + y * g ≤ y * b + x * g
rearranged x y g b h k =
    let p : x + (y - x) ≡ y = omega arith in
    let q : g + (b - g) ≡ b = omega arith in
    rw (p, q) at (gain x (y - x) g (b - g))

lost : (x y : ℕ) (r : ℤ) → r ≡ pos x -ℤ pos y → x < y → int_lt r (pos 0) ≡ true
lost x y r e h = grind (arith, ints)

not_lost : (x y : ℕ) (r : ℤ) → r ≡ pos x -ℤ pos y → y ≤ x → int_lt r (pos 0) ≡ false
not_lost x y r e h = grind (arith, ints)

-- the factor of an arc's bound and flow: `x` stands for what is gained at the arc, and `y` for what is lost
arc_bound : (x y low cap g : ℕ) (r : ℤ) → r ≡ pos x -ℤ pos y → low ≤ g → g ≤ cap
    → x * (if int_lt r (pos 0) then cap else low) + y * g ≤ y * (if int_lt r (pos 0) then cap else low) + x * g
arc_bound x y low cap g r e l c = ⊎_elim
    (λ (h : x < y). rw (lost x y r e h) (rearranged x y g cap (omega arith) c))
    (λ (h : y ≤ x). rw (not_lost x y r e h) (let q = rearranged y x low g h l in omega arith))
    (cases_lt x y)

-- a product with a difference
difference_times : (x y b : ℕ) (r : ℤ) → r ≡ pos x -ℤ pos y → r *ℤ pos b ≡ pos (x * b) -ℤ pos (y * b)
difference_times x y b (pos n) e =
    let q : n + y ≡ x = omega (arith, ints) in
    let k = ap (λ z. z * b) q in
    pos-*ℤ-pos n b ∙ (let g : pos (n * b) ≡ pos (x * b) -ℤ pos (y * b) = omega (arith, ints) in g)
difference_times x y b (negsuc n) e =
    let q : suc n + x ≡ y = omega (arith, ints) in
    let k = ap (λ z. z * b) q in
    negsuc-*ℤ-pos n b ∙ (let g : neg_ℤ (pos (suc n * b)) ≡ pos (x * b) -ℤ pos (y * b) = omega (arith, ints) in g)

-- what is gained and what is lost by a unit on arc a, where a number below 0 counts on the other side
abbrev gains : Network → (ℕ → ℤ) → ℕ → ℕ
gains net number a = (arc_of net a).cost + up (number (arc_of net a).tail) + down (number (arc_of net a).head)

abbrev losses : Network → (ℕ → ℤ) → ℕ → ℕ
losses net number a = down (number (arc_of net a).tail) + up (number (arc_of net a).head)

reduced_cost_is : (net : Network) (number : ℕ → ℤ) (a : ℕ) → reduced_cost net number a ≡ pos (gains net number a) -ℤ pos (losses net number a)
reduced_cost_is net number a = omega (arith, ints)

-- over a circulation the numbers of the nodes cancel
priced : (net : Network) → IsNetwork net → (number : ℕ → ℤ) → (flow : ℕ → ℕ) → IsCirculation net flow
    → sum_to (length net.arcs) (λ a. gains net number a * flow a) ≡ cost net flow + sum_to (length net.arcs) (λ a. losses net number a * flow a)
priced net n number flow f =
    let m = length net.arcs in
    let t : ℕ → ℕ = λ a. (arc_of net a).tail in
    let h : ℕ → ℕ = λ a. (arc_of net a).head in
    let c : ℕ → ℕ = λ a. (arc_of net a).cost in
    let x1 = sum_to-ext m (λ a. gains net number a * flow a) (λ a. (c a * flow a + up (number (t a)) * flow a) + down (number (h a)) * flow a) (λ a l. omega arith) in
    let x2 = sum_to-add m (λ a. c a * flow a + up (number (t a)) * flow a) (λ a. down (number (h a)) * flow a) in
    let x3 = sum_to-add m (λ a. c a * flow a) (λ a. up (number (t a)) * flow a) in
    let y1 = sum_to-ext m (λ a. losses net number a * flow a) (λ a. down (number (t a)) * flow a + up (number (h a)) * flow a) (λ a l. omega arith) in
    let y2 = sum_to-add m (λ a. down (number (t a)) * flow a) (λ a. up (number (h a)) * flow a) in
    let u = weighed_balance net n flow f (λ v. up (number v)) in
    let d = weighed_balance net n flow f (λ v. down (number v)) in
    omega arith

pub weak_duality : WeakDuality
weak_duality net n number flow f =
    let m = length net.arcs in
    let x : ℕ → ℕ = λ a. gains net number a in
    let y : ℕ → ℕ = λ a. losses net number a in
    let b : ℕ → ℕ = λ a. if int_lt (reduced_cost net number a) (pos 0) then (arc_of net a).cap else (arc_of net a).low in
    let s = signed_sum_to-is m (λ a. reduced_cost net number a *ℤ pos (b a)) (λ a. x a * b a) (λ a. y a * b a)
    (λ a l. difference_times (x a) (y a) (b a) (reduced_cost net number a) (reduced_cost_is net number a)) in
    let le = sum_to-le m (λ a. x a * b a + y a * flow a) (λ a. y a * b a + x a * flow a)
    (λ a l. arc_bound (x a) (y a) (arc_of net a).low (arc_of net a).cap (flow a) (reduced_cost net number a) (reduced_cost_is net number a) (f.low a l) (f.cap a l)) in
    let s1 = sum_to-add m (λ a. x a * b a) (λ a. y a * flow a) in
    let s2 = sum_to-add m (λ a. y a * b a) (λ a. x a * flow a) in
    let p = priced net n number flow f in
    omega (arith, ints)

fitting : (r : ℤ) (low cap f : ℕ) → (pos 0 <ℤ r → f ≡ low) → (r <ℤ pos 0 → f ≡ cap)
    → r *ℤ pos (if int_lt r (pos 0) then cap else low) ≡ r *ℤ pos f
fitting (pos zero) low cap f l c = zero-*ℤ (pos low) ∙ sym (zero-*ℤ (pos f))
fitting (pos (suc k)) low cap f l c =
    let e : int_lt (pos (suc k)) (pos 0) ≡ false = not_lost (suc k) 0 (pos (suc k)) (omega (arith, ints)) (omega arith) in
    rw e (ap (λ z. pos (suc k) *ℤ pos z) (sym (l (omega (arith, ints)))))
fitting (negsuc k) low cap f l c = ap (λ z. negsuc k *ℤ pos z) (sym (c (omega (arith, ints))))

pub fits_cheapest : FitsCheapest
fits_cheapest net n flow f number fit other g =
    let m = length net.arcs in
    let x : ℕ → ℕ = λ a. gains net number a in
    let y : ℕ → ℕ = λ a. losses net number a in
    let b : ℕ → ℕ = λ a. if int_lt (reduced_cost net number a) (pos 0) then (arc_of net a).cap else (arc_of net a).low in
    let s = signed_sum_to-is m (λ a. reduced_cost net number a *ℤ pos (b a)) (λ a. x a * flow a) (λ a. y a * flow a)
    (λ a l. fitting (reduced_cost net number a) (arc_of net a).low (arc_of net a).cap (flow a) (fit.low a l) (fit.cap a l)
    ∙ difference_times (x a) (y a) (flow a) (reduced_cost net number a) (reduced_cost_is net number a)) in
    let p = priced net n number flow f in
    let w = weak_duality net n number other g in
    omega (arith, ints)
