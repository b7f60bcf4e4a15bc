-- The least of a signed number times a number of units, on wider bounds, and what a unit's gain has to do with it.
use Rattle.std.proofs.Common.{ℕ, suc, zero, ◌≡◌, ◌+◌, ◌*◌, ◌≤◌, ◌&&◌, not, Bool, true, false, if◌then◌else◌, ℤ, pos, negsuc, neg_ℤ, ◌+ℤ◌, ◌-ℤ◌, ◌≤ℤ◌, ◌<ℤ◌, ap, arith}
use Rattle.std.specs.Int.{int_min}
use Rattle.std.proofs.lemmas.Int.{ints, clamps}
use Rattle.std.proofs.lemmas.Nat.{mul-le}
use borrow.Author.Differences.{up, down}
use Rattle.bound_tree.specs.Value.{least_times, least_gain}
use Rattle.bound_tree.proofs.Signed.{least_times-is, least_gain-is}

loss_is : (z : ℤ) → neg_ℤ (pos (down z)) ≡ int_min (pos 0) z
loss_is (pos n) = omega (arith, ints, clamps)
loss_is (negsuc n) = omega (arith, ints, clamps)

-- the least gain is that of buying nothing or all, at what a unit is left at
pub least_gain-times : (cap charge : ℕ) (g h z : ℤ) → z ≡ pos charge -ℤ g -ℤ h → least_gain cap charge g h ≡ least_times z 0 cap
least_gain-times cap charge g h z is =
    let gain = least_gain-is cap charge (down z) g h (rw (← is) (loss_is z)) in
    let times = least_times-is z 0 cap in
    omega (arith, ints)

down-falls : (y z : ℤ) → y ≤ℤ z → down z ≤ down y
down-falls (pos m) (pos n) le = omega arith
down-falls (negsuc m) (pos n) le = omega arith
down-falls (pos m) (negsuc n) le = absurd (omega (arith, ints))
down-falls (negsuc m) (negsuc n) le = omega (arith, ints)

pub least_gain-rises : (cap c d : ℕ) (g h : ℤ) → c ≤ d → least_gain cap c g h ≤ℤ least_gain cap d g h
least_gain-rises cap c d g h le =
    let y = pos c -ℤ g -ℤ h in
    let z = pos d -ℤ g -ℤ h in
    let a = least_gain-is cap c (down y) g h (loss_is y) in
    let b = least_gain-is cap d (down z) g h (loss_is z) in
    let less = down-falls y z (omega (arith, ints)) in
    let m = mul-le cap (down z) cap (down y) (omega arith) less in
    omega (arith, ints)

pub least_gain-not_above : (cap c : ℕ) (g h : ℤ) → least_gain cap c g h ≤ℤ pos 0
least_gain-not_above cap c g h =
    let z = pos c -ℤ g -ℤ h in
    let a = least_gain-is cap c (down z) g h (loss_is z) in
    omega (arith, ints)

pub least_times-wider : (z : ℤ) (low high from to : ℕ) → low ≤ from → to ≤ high → least_times z low high ≤ℤ least_times z from to
least_times-wider z low high from to l h =
    let a = mul-le (up z) low (up z) from (omega arith) l in
    let b = mul-le (down z) to (down z) high (omega arith) h in
    let e = least_times-is z low high in
    let f = least_times-is z from to in
    omega (arith, ints)

pub least_times-not_above : (z : ℤ) (low high : ℕ) → low ≡ 0 → least_times z low high ≤ℤ pos 0
least_times-not_above z low high none =
    let e = least_times-is z low high in
    let a = ap (λ n. up z * n) none in
    omega (arith, ints)

-- an arc's flow that fits: `x` stands for what a unit gains, and `y` for what it loses
pub fitting : (z : ℤ) (x y low cap flow : ℕ) → z ≡ pos x -ℤ pos y → (pos 0 <ℤ z → flow ≡ low) → (z <ℤ pos 0 → flow ≡ cap)
    → pos (x * flow) ≤ℤ (least_times z low cap +ℤ pos (y * flow))
fitting (pos zero) x y low cap flow is at_low at_cap =
    let e = least_times-is (pos 0) low cap in
    let same : x ≡ y = omega (arith, ints) in
    let times = ap (λ n. n * flow) same in
    omega (arith, ints)
fitting (pos (suc n)) x y low cap flow is at_low at_cap =
    let e = least_times-is (pos (suc n)) low cap in
    let here = at_low (omega (arith, ints)) in
    let sum : x ≡ suc n + y = omega (arith, ints) in
    let times = ap (λ m. m * flow) sum in
    let units = ap (λ m. suc n * m) here in
    omega (arith, ints)
fitting (negsuc n) x y low cap flow is at_low at_cap =
    let e = least_times-is (negsuc n) low cap in
    let here = at_cap (omega (arith, ints)) in
    let sum : y ≡ suc n + x = omega (arith, ints) in
    let times = ap (λ m. m * flow) sum in
    let units = ap (λ m. suc n * m) here in
    omega (arith, ints)

-- an arc out of a set of nodes has to bring its low, and one into it can bring its cap
pub crossing : (t h : Bool) (base low cap : ℕ) (z : ℤ) → z ≡ pos 0 +ℤ (pos (if t then 1 else 0) -ℤ pos base) -ℤ (pos (if h then 1 else 0) -ℤ pos base)
    → least_times z low cap ≡ pos (if t && not h then low else 0) -ℤ pos (if not t && h then cap else 0)
crossing true true base low cap z is =
    let zero_is : z ≡ pos 0 = omega (arith, ints) in
    let e = least_times-is (pos 0) low cap in
    rw zero_is (omega (arith, ints))
crossing false false base low cap z is =
    let zero_is : z ≡ pos 0 = omega (arith, ints) in
    let e = least_times-is (pos 0) low cap in
    rw zero_is (omega (arith, ints))
crossing true false base low cap z is =
    let one_is : z ≡ pos 1 = omega (arith, ints) in
    let e = least_times-is (pos 1) low cap in
    rw one_is (omega (arith, ints))
crossing false true base low cap z is =
    let less_is : z ≡ negsuc 0 = omega (arith, ints) in
    let e = least_times-is (negsuc 0) low cap in
    rw less_is (omega (arith, ints))
