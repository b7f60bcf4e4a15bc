-- The first of the numbers at the places from low on that is the least, one place after another.
use Rattle.std.proofs.Common.{ℕ, ◌≡◌, ◌+◌, ◌<◌, ◌≤◌, ℤ, ◌≤ℤ◌, ◌<ℤ◌, ap, arith, inl, inr}
use Rattle.std.proofs.lemmas.Bool.{cases_lt}
use Rattle.std.proofs.lemmas.Int.{ints}

-- it is the first least of the places before next
pub record IsFirstLeastTo (worth : ℕ → ℤ) (low next j : ℕ) : Type 0 where
  pub from_low : low ≤ j
  pub below : j < next
  pub least : (other : ℕ) → low ≤ other → other < next → worth j ≤ℤ worth other
  pub first : (other : ℕ) → low ≤ other → other < j → worth j <ℤ worth other

pub first_alone : (worth : ℕ → ℤ) (low next : ℕ) → next ≡ low + 1 → IsFirstLeastTo worth low next low
first_alone worth low next is = record {
  from_low = omega arith;
  below = omega arith;
  least = λ other from to. (let here : low ≡ other = omega arith in omega (arith, ints, ap worth here));
  first = λ other from to. absurd (omega arith);
}

-- the next place has a lesser number
pub next_is_less : (worth : ℕ → ℤ) (low next j : ℕ) → worth next <ℤ worth j → IsFirstLeastTo worth low next j → IsFirstLeastTo worth low (next + 1) next
next_is_less worth low next j less f = record {
  from_low = omega (arith, f.from_low, f.below);
  below = omega arith;
  least = λ other from to. elim (cases_lt other next) [
    | inl early ↦ (let l = f.least other from early in omega (arith, ints))
    | inr late ↦ (let here : next ≡ other = omega arith in omega (arith, ints, ap worth here))
  ];
  first = λ other from early. (let l = f.least other from early in omega (arith, ints));
}

-- it has no lesser number
pub next_is_not_less : (worth : ℕ → ℤ) (low next j : ℕ) → worth j ≤ℤ worth next → IsFirstLeastTo worth low next j → IsFirstLeastTo worth low (next + 1) j
next_is_not_less worth low next j more f = record {
  from_low = f.from_low;
  below = omega (arith, f.below);
  least = λ other from to. elim (cases_lt other next) [
    | inl early ↦ f.least other from early
    | inr late ↦ (let here : next ≡ other = omega arith in omega (arith, ints, ap worth here))
  ];
  first = f.first;
}
