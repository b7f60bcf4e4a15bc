-- The ranges of the halves of a box.
use Rattle.std.proofs.Common.{ℕ, ◌≡◌, ◌+◌, ◌<◌, ◌≤◌, length, arith, refl, ap, inl, inr, get_or-set_same, get_or-set_other}
use Rattle.std.proofs.lemmas.Bool.{cases_eq}
use Rattle.interval_box.specs.declared.boxes.IntervalBox.{IntervalBox}
use Rattle.interval_box.specs.Ranges.{low_of, high_of, Admits}
use Rattle.interval_box.specs.Halves.{IsProper, low_half, high_half}

pub low_half-low : (area : IntervalBox) (i s k : ℕ) → low_of (low_half area i s) k ≡ low_of area k
unfolding low_of low_half
low_half-low area i s k = refl

pub low_half-high : (area : IntervalBox) (i s k : ℕ) → k ≡ i → i < length area.highs → high_of (low_half area i s) k ≡ s
unfolding high_of low_half
low_half-high area i s k here below =
    let same = get_or-set_same area.highs i s 0 below in
    rw here same

pub low_half-high_other : (area : IntervalBox) (i s k : ℕ) → (k ≡ i → ⊥) → high_of (low_half area i s) k ≡ high_of area k
unfolding high_of low_half
low_half-high_other area i s k other = get_or-set_other area.highs i k s 0 other

pub high_half-high : (area : IntervalBox) (i s k : ℕ) → high_of (high_half area i s) k ≡ high_of area k
unfolding high_of high_half
high_half-high area i s k = refl

pub high_half-low : (area : IntervalBox) (i s k : ℕ) → k ≡ i → i < length area.lows → low_of (high_half area i s) k ≡ s + 1
unfolding low_of high_half
high_half-low area i s k here below =
    let same = get_or-set_same area.lows i (s + 1) 0 below in
    rw here same

pub high_half-low_other : (area : IntervalBox) (i s k : ℕ) → (k ≡ i → ⊥) → low_of (high_half area i s) k ≡ low_of area k
unfolding low_of high_half
high_half-low_other area i s k other = get_or-set_other area.lows i k (s + 1) 0 other

-- what a half admits the box admits
pub low_admits : (area : IntervalBox) (i s k j : ℕ) → i < length area.highs → s < high_of area i → Admits (low_half area i s) k j → Admits area k j
low_admits area i s k j below less a = elim (cases_eq k i) [
  | inl here ↦ record {
    from_low = omega (arith, low_half-low area i s k, a.from_low);
    to_high = omega (arith, low_half-high area i s k here below, ap (high_of area) here, a.to_high);
  }
  | inr other ↦ record {
    from_low = omega (arith, low_half-low area i s k, a.from_low);
    to_high = omega (arith, low_half-high_other area i s k other, a.to_high);
  }
]

pub high_admits : (area : IntervalBox) (i s k j : ℕ) → i < length area.lows → low_of area i ≤ s → Admits (high_half area i s) k j → Admits area k j
high_admits area i s k j below le a = elim (cases_eq k i) [
  | inl here ↦ record {
    from_low = omega (arith, high_half-low area i s k here below, ap (low_of area) here, a.from_low);
    to_high = omega (arith, high_half-high area i s k, a.to_high);
  }
  | inr other ↦ record {
    from_low = omega (arith, high_half-low_other area i s k other, a.from_low);
    to_high = omega (arith, high_half-high area i s k, a.to_high);
  }
]

-- what the box admits the half on its side admits
pub admits_low : (area : IntervalBox) (i s k j : ℕ) → i < length area.highs → (k ≡ i → j ≤ s) → Admits area k j → Admits (low_half area i s) k j
admits_low area i s k j below side a = elim (cases_eq k i) [
  | inl here ↦ record {
    from_low = omega (arith, low_half-low area i s k, a.from_low);
    to_high = omega (arith, low_half-high area i s k here below, side here);
  }
  | inr other ↦ record {
    from_low = omega (arith, low_half-low area i s k, a.from_low);
    to_high = omega (arith, low_half-high_other area i s k other, a.to_high);
  }
]

pub admits_high : (area : IntervalBox) (i s k j : ℕ) → i < length area.lows → (k ≡ i → s < j) → Admits area k j → Admits (high_half area i s) k j
admits_high area i s k j below side a = elim (cases_eq k i) [
  | inl here ↦ record {
    from_low = omega (arith, high_half-low area i s k here below, side here);
    to_high = omega (arith, high_half-high area i s k, a.to_high);
  }
  | inr other ↦ record {
    from_low = omega (arith, high_half-low_other area i s k other, a.from_low);
    to_high = omega (arith, high_half-high area i s k, a.to_high);
  }
]
