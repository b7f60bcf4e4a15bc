-- A balanced level is one at which a segment is worth the most.
use Rattle.std.proofs.Common.{ℕ, ◌≡◌, ◌+◌, ◌-◌, ◌*◌, ◌<◌, ◌≤◌, ap, arith, inl, inr, subst}
use Rattle.std.proofs.lemmas.Bool.{cases_lt, cases_order}
use Rattle.std.proofs.lemmas.Nat.{mul-le}
use Rattle.std.proofs.Math.Nat.{mul-add, mul_comm}
use Rattle.lagrangian.specs.declared.offer.TheConstants.{ZERO, TOP}
use Rattle.lagrangian.specs.Levels.{goods_under, goods_up_to, goods_losses, filled, IsBalanced}
use Rattle.lagrangian.proofs.OneLevel.{filled-under, filled-over, filled-at}
use Rattle.lagrangian.proofs.Losses.{rise, fall}

-- where what is called for lies between what the tests say, it is so for each kind of level
pub filled-low : (below low high level : ℕ) → low ≤ high → ZERO ≤ level → low ≤ filled below low high level
filled-low below low high level ordered from = elim (cases_order level ZERO) [
  | inl at ↦ omega (arith, filled-at below low high level at)
  | inr other ↦ elim other [
    | inl under ↦ absurd (omega arith)
    | inr over ↦ omega (arith, filled-over below low high level over)
  ]
]

-- d levels higher the total is worth no more than d times what is called for
rise_total : (low high called level d : ℕ) → (level < ZERO → called ≡ high) → (ZERO ≤ level → low ≤ called) → low ≤ high
    → (level + d - ZERO) * low + (ZERO - level) * high ≤ (level - ZERO) * low + (ZERO - (level + d)) * high + d * called
rise_total low high called level d is_high is_low ordered = elim (cases_lt level ZERO) [
  | inl under ↦ elim (cases_lt ZERO (level + d)) [
    | inl over ↦
        (let a = mul-le (level + d - ZERO) low (level + d - ZERO) high (omega arith) ordered in
        let split : d ≡ (ZERO - level) + (level + d - ZERO) = omega arith in
        let none : level - ZERO ≡ 0 = omega arith in
        omega (
          arith,
          ap (λ n. d * n) (is_high under),
          ap (λ n. n * high) split,
          mul_comm high ((ZERO - level) + (level + d - ZERO)),
          mul-add high (ZERO - level) (level + d - ZERO),
          mul_comm high (ZERO - level),
          mul_comm high (level + d - ZERO),
          ap (λ n. n * low) none,
        ))
    | inr still ↦
        (let split : ZERO - level ≡ d + (ZERO - (level + d)) = omega arith in
        let none : level + d - ZERO ≡ 0 = omega arith in
        omega (
          arith,
          ap (λ n. d * n) (is_high under),
          ap (λ n. n * high) split,
          mul_comm high (d + (ZERO - (level + d))),
          mul-add high d (ZERO - (level + d)),
          mul_comm high d,
          mul_comm high (ZERO - (level + d)),
          ap (λ n. n * low) none,
        ))
  ]
  | inr over ↦
      (let split : level + d - ZERO ≡ (level - ZERO) + d = omega arith in
      let none : ZERO - level ≡ 0 = omega arith in
      let a = mul-le d low d called (omega arith) (is_low over) in
      omega (arith, ap (λ n. n * low) split, mul_comm low ((level - ZERO) + d), mul-add low (level - ZERO) d, mul_comm low (level - ZERO), mul_comm low d, ap (λ n. n * high) none))
]

-- d levels lower the total is worth less by d times what is called for at least
fall_total : (low high called level d : ℕ) → (ZERO < level + d → called ≡ low) → (level + d ≤ ZERO → called ≤ high) → low ≤ high
    → (level - ZERO) * low + (ZERO - (level + d)) * high + d * called ≤ (level + d - ZERO) * low + (ZERO - level) * high
fall_total low high called level d is_low is_high ordered = elim (cases_lt ZERO (level + d)) [
  | inl over ↦ elim (cases_lt level ZERO) [
    | inl under ↦
        (let a = mul-le (ZERO - level) low (ZERO - level) high (omega arith) ordered in
        let split : d ≡ (ZERO - level) + (level + d - ZERO) = omega arith in
        let none : level - ZERO ≡ 0 = omega arith in
        let gone : ZERO - (level + d) ≡ 0 = omega arith in
        omega (
          arith,
          ap (λ n. d * n) (is_low over),
          ap (λ n. n * low) split,
          mul_comm low ((ZERO - level) + (level + d - ZERO)),
          mul-add low (ZERO - level) (level + d - ZERO),
          mul_comm low (ZERO - level),
          mul_comm low (level + d - ZERO),
          ap (λ n. n * low) none,
          ap (λ n. n * high) gone,
        ))
    | inr still ↦
        (let split : level + d - ZERO ≡ (level - ZERO) + d = omega arith in
        let gone : ZERO - (level + d) ≡ 0 = omega arith in
        omega (
          arith,
          ap (λ n. d * n) (is_low over),
          ap (λ n. n * low) split,
          mul_comm low ((level - ZERO) + d),
          mul-add low (level - ZERO) d,
          mul_comm low (level - ZERO),
          mul_comm low d,
          ap (λ n. n * high) gone,
        ))
  ]
  | inr under ↦
      (let split : ZERO - level ≡ d + (ZERO - (level + d)) = omega arith in
      let none : level - ZERO ≡ 0 = omega arith in
      let a = mul-le d called d high (omega arith) (is_high under) in
      omega (
        arith,
        ap (λ n. n * high) split,
        mul_comm high (d + (ZERO - (level + d))),
        mul-add high d (ZERO - (level + d)),
        mul_comm high d,
        mul_comm high (ZERO - (level + d)),
        ap (λ n. n * low) none,
      ))
]

-- at no level d above, or d below, is a segment worth more, with the losses of the goods taken off
pub no_higher : (n : ℕ) (level cap : ℕ → ℕ) (low high top d : ℕ) → low ≤ high
    → low ≤ filled (goods_under n level cap top) low high top
    → filled (goods_under n level cap top) low high top ≤ goods_up_to n level cap top
    → (top + d - ZERO) * low + (goods_losses n level cap top + (ZERO - top) * high)
    ≤ (top - ZERO) * low + (goods_losses n level cap (top + d) + (ZERO - (top + d)) * high)
no_higher n level cap low high top d ordered from enough =
    let below = goods_under n level cap top in
    let called = filled below low high top in
    let total = rise_total low high called top d (λ under. filled-under below low high top under) (λ over. from) ordered in
    let lost = rise n level cap top d in
    let few = mul-le d called d (goods_up_to n level cap top) (omega arith) enough in
    omega arith

pub no_lower : (n : ℕ) (level cap : ℕ → ℕ) (low high other d : ℕ) → low ≤ high
    → filled (goods_under n level cap (other + d)) low high (other + d) ≤ high
    → goods_under n level cap (other + d) ≤ filled (goods_under n level cap (other + d)) low high (other + d)
    → (other - ZERO) * low + (goods_losses n level cap (other + d) + (ZERO - (other + d)) * high)
    ≤ (other + d - ZERO) * low + (goods_losses n level cap other + (ZERO - other) * high)
no_lower n level cap low high other d ordered to all_below =
    let below = goods_under n level cap (other + d) in
    let called = filled below low high (other + d) in
    let total = fall_total low high called other d (λ over. filled-over below low high (other + d) over) (λ under. to) ordered in
    let lost = fall n level cap other d in
    let few = mul-le d below d called (omega arith) all_below in
    omega arith

-- at no other level up to TOP is a segment worth more than at a balanced one
pub balanced_is_best : (n : ℕ) (level cap : ℕ → ℕ) (low high top other : ℕ) → low ≤ high
    → IsBalanced (goods_under n level cap top) (goods_up_to n level cap top) low high top → other ≤ TOP
    → (other - ZERO) * low + (goods_losses n level cap top + (ZERO - top) * high)
    ≤ (top - ZERO) * low + (goods_losses n level cap other + (ZERO - other) * high)
balanced_is_best n level cap low high top other ordered b within = elim (cases_lt top other) [
  | inl above ↦ elim b.enough [
    | inl enough ↦
        (let e : top + (other - top) ≡ other = omega arith in
        rw e at (no_higher n level cap low high top (other - top) ordered b.from_low enough))
    | inr last ↦ absurd (omega (arith, last.1))
  ]
  | inr below ↦
      (let e : other + (top - other) ≡ top = omega arith in
      no_lower_at n level cap low high other (top - other) top e ordered b)
]
  where
    no_lower_at : (n : ℕ) (level cap : ℕ → ℕ) (low high other d top : ℕ) → other + d ≡ top → low ≤ high
        → IsBalanced (goods_under n level cap top) (goods_up_to n level cap top) low high top
        → (other - ZERO) * low + (goods_losses n level cap top + (ZERO - top) * high)
        ≤ (top - ZERO) * low + (goods_losses n level cap other + (ZERO - other) * high)
    no_lower_at n level cap low high other d top e ordered b =
        subst (λ top. IsBalanced (goods_under n level cap top) (goods_up_to n level cap top) low high top
        → (other - ZERO) * low + (goods_losses n level cap top + (ZERO - top) * high)
        ≤ (top - ZERO) * low + (goods_losses n level cap other + (ZERO - other) * high)) e
        (λ b. no_lower n level cap low high other d ordered b.to_high b.all_below) b
