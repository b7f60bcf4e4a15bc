-- What one good's units are under a level, up to it and at it, and how far they are under it.
use Rattle.std.proofs.Common.{ℕ, ◌≡◌, ◌+◌, ◌-◌, ◌*◌, ◌<◌, ◌≤◌, max, ap, arith, inl, inr, refl}
use Rattle.std.proofs.lemmas.Bool.{cases_lt}
use Rattle.std.proofs.lemmas.Bool.Decides.{nat_tests}
use Rattle.std.proofs.lemmas.Nat.{mul-le}
use Rattle.std.proofs.Math.Nat.{mul-add, mul_comm}
use Rattle.lagrangian.specs.declared.offer.TheConstants.{ZERO}
use Rattle.lagrangian.specs.Levels.{under, up_to, loss, filled}

pub under-yes : (top level cap : ℕ) → level < top → under top level cap ≡ cap
unfolding under
under-yes top level cap h = grind (arith, nat_tests)

pub under-no : (top level cap : ℕ) → top ≤ level → under top level cap ≡ 0
unfolding under
under-no top level cap h = grind (arith, nat_tests)

pub up_to-yes : (top level cap : ℕ) → level ≤ top → up_to top level cap ≡ cap
unfolding up_to
up_to-yes top level cap h = grind (arith, nat_tests)

pub up_to-no : (top level cap : ℕ) → top < level → up_to top level cap ≡ 0
unfolding up_to
up_to-no top level cap h = grind (arith, nat_tests)

pub loss-is : (top level cap : ℕ) → loss top level cap ≡ cap * (top - level)
unfolding loss
loss-is top level cap = refl

pub loss-no : (top level cap : ℕ) → top ≤ level → loss top level cap ≡ 0
loss-no top level cap h =
    let none : top - level ≡ 0 = omega arith in
    omega (arith, loss-is top level cap, ap (λ n. cap * n) none)

-- no units
pub under-none : (top level : ℕ) → under top level 0 ≡ 0
under-none top level = elim (cases_lt level top) [
  | inl below ↦ under-yes top level 0 below
  | inr above ↦ under-no top level 0 above
]

pub up_to-none : (top level : ℕ) → up_to top level 0 ≡ 0
up_to-none top level = elim (cases_lt top level) [
  | inl above ↦ up_to-no top level 0 above
  | inr below ↦ up_to-yes top level 0 below
]

pub loss-none : (top level : ℕ) → loss top level 0 ≡ 0
loss-none top level = omega (arith, loss-is top level 0)

-- they are all units at most, and more up to a level than under it
pub under-le : (top level cap : ℕ) → under top level cap ≤ cap
under-le top level cap = elim (cases_lt level top) [
  | inl below ↦ omega (arith, under-yes top level cap below)
  | inr above ↦ omega (arith, under-no top level cap above)
]

pub under-le-up_to : (top level cap : ℕ) → under top level cap ≤ up_to top level cap
under-le-up_to top level cap = elim (cases_lt level top) [
  | inl below ↦ omega (arith, under-yes top level cap below, up_to-yes top level cap (omega arith))
  | inr above ↦ omega (arith, under-no top level cap above)
]

pub under-mono : (a b level cap : ℕ) → a ≤ b → under a level cap ≤ under b level cap
under-mono a b level cap h = elim (cases_lt level a) [
  | inl below ↦ omega (arith, under-yes a level cap below, under-yes b level cap (omega arith))
  | inr above ↦ omega (arith, under-no a level cap above)
]

pub up_to-le-under : (a b level cap : ℕ) → a < b → up_to a level cap ≤ under b level cap
up_to-le-under a b level cap h = elim (cases_lt a level) [
  | inl above ↦ omega (arith, up_to-no a level cap above)
  | inr below ↦ omega (arith, up_to-yes a level cap below, under-yes b level cap (omega arith))
]

-- d levels higher each unit up to the level is d further under, and no other unit is more than that
pub rise_one : (top d level cap : ℕ) → loss top level cap + d * up_to top level cap ≤ loss (top + d) level cap
rise_one top d level cap = elim (cases_lt top level) [
  | inl above ↦ (let none = ap (λ n. d * n) (up_to-no top level cap above) in omega (arith, loss-no top level cap (omega arith)))
  | inr below ↦
      (let all = ap (λ n. d * n) (up_to-yes top level cap below) in
      let far : top + d - level ≡ (top - level) + d = omega arith in
      omega (arith, loss-is top level cap, loss-is (top + d) level cap, ap (λ n. cap * n) far, mul-add cap (top - level) d, mul_comm cap d))
]

pub fall_one : (top d level cap : ℕ) → loss (top + d) level cap ≤ loss top level cap + d * under (top + d) level cap
fall_one top d level cap = elim (cases_lt level (top + d)) [
  | inl below ↦
      (let all = ap (λ n. d * n) (under-yes (top + d) level cap below) in
      let far = mul-le cap (top + d - level) cap ((top - level) + d) (omega arith) (omega arith) in
      omega (arith, loss-is top level cap, loss-is (top + d) level cap, mul-add cap (top - level) d, mul_comm cap d))
  | inr above ↦ omega (arith, loss-no (top + d) level cap above)
]

-- what a balanced level calls for
pub filled-under : (below low high level : ℕ) → level < ZERO → filled below low high level ≡ high
unfolding filled
filled-under below low high level h = grind (arith, nat_tests)

pub filled-over : (below low high level : ℕ) → ZERO < level → filled below low high level ≡ low
unfolding filled
filled-over below low high level h = grind (arith, nat_tests)

pub filled-at : (below low high level : ℕ) → level ≡ ZERO → filled below low high level ≡ max below low
unfolding filled
filled-at below low high level h = grind (arith, nat_tests)
