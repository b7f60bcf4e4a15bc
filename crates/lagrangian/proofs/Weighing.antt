-- Sums of weights.
use Rattle.std.proofs.Common.{ℕ, ◌≡◌, ◌+◌, ◌-◌, ◌*◌, ◌<◌, ◌≤◌, List, length, get_or, set, take, sum, arith, ap}
use Rattle.std.proofs.lemmas.List.Sums.{sum_by-set, get_or-le-sum_by, sum_by_more, sum_by_more_le, sum_by-take-le}
use Rattle.std.proofs.Math.Nat.{mul-add}
use Rattle.std.proofs.lemmas.Nat.{mul-le}
use Rattle.std.proofs.lemmas.Grind.{common_steps}
use Rattle.std.proofs.lemmas.List.{length-set}

-- a sum where one number is another
pub sum_changed : (xs : List ℕ) (i x : ℕ) → i < length xs → sum (set xs i x) + get_or xs i 0 ≡ sum xs + x
sum_changed xs i x h = sum_by-set (λ n. n) xs i x 0 h

-- each number is within the sum
pub part_within_sum : (xs : List ℕ) (i : ℕ) → i < length xs → get_or xs i 0 ≤ sum xs
part_within_sum xs i h = get_or-le-sum_by (λ n. n) xs i 0 h

-- the sum of one number more
pub sum_more : (xs : List ℕ) (i : ℕ) → i < length xs → sum (take (i + 1) xs) ≡ sum (take i xs) + get_or xs i 0
sum_more xs i h = sum_by_more (λ n. n) xs i 0 h

pub sum_more_within : (xs : List ℕ) (i : ℕ) → i < length xs → sum (take i xs) + get_or xs i 0 ≤ sum xs
sum_more_within xs i h = sum_by_more_le (λ n. n) xs i 0 h

-- what is taken from one number and given to another
pub sum_shifted : (xs : List ℕ) (a b n : ℕ) → a < length xs → b < length xs → n ≤ get_or xs a 0
    → sum (set (set xs a (get_or xs a 0 - n)) b (get_or (set xs a (get_or xs a 0 - n)) b 0 + n)) ≡ sum xs
sum_shifted xs a b n ha hb le =
    let ys = set xs a (get_or xs a 0 - n) in
    let one = sum_changed xs a (get_or xs a 0 - n) ha in
    let two = sum_changed ys b (get_or ys b 0 + n) (omega (arith, length-set {A = ℕ})) in
    omega arith

-- a number elsewhere stays
pub set_elsewhere : (xs : List ℕ) (i x k : ℕ) → i < k → get_or (set xs i x) k 0 ≡ get_or xs k 0
set_elsewhere xs i x k h = grind (arith, common_steps)

-- what each weight is worth at most c times, the weights together are
pub weighed_more : (c : ℕ) (ws : List ℕ) (i s n : ℕ) → i < length ws → s ≤ c * sum (take i ws) → n ≤ c * get_or ws i 0
    → s + n ≤ c * sum (take (i + 1) ws)
weighed_more c ws i s n h le more =
    let e = ap (λ x. c * x) (sum_more ws i h) in
    let d = mul-add c (sum (take i ws)) (get_or ws i 0) in
    omega arith

pub weighed_within : (c : ℕ) (ws : List ℕ) (i s w : ℕ) → s ≤ c * sum (take i ws) → sum ws ≤ w → s ≤ c * w
weighed_within c ws i s w le total =
    let t = sum_by-take-le (λ n. n) ws i in
    let m = mul-le c (sum (take i ws)) c w (omega arith) (omega arith) in
    omega arith
