-- The numbers at which the intervals of a supplier begin.
use Rattle.std.proofs.Common.{ℕ, ◌≡◌, ◌+◌, ◌<◌, ◌≤◌, List, [], ◌∷◌, length, All, arith, refl, ap, inl, inr, subst}
use Rattle.std.proofs.lemmas.Bool.{cases_lt}
use Rattle.tqd_base.specs.declared.limits.TheConstants.{INTERVALS_MAX}
use Rattle.tqd_instance.specs.PartsData.{PartsData}
use Rattle.tqd_instance.specs.Parts.{AreFroms, IsPriceRow, IsWellFormed}
use Rattle.tqd_instance.specs.Formed.{IsInRanges, HasKeysOnce, HasFewIntervals}
use Rattle.tqd_instance.proofs.Rising.{increasing_same}
use Rattle.tqd_instance.proofs.LackLemmas.{stated_supplier}

-- they are one list
pub froms_one : (parts : PartsData) (i : ℕ) (a b : List ℕ) → AreFroms parts i a → AreFroms parts i b → a ≡ b
froms_one parts i a b of_a of_b = increasing_same a b of_a.rising of_b.rising
    (λ n has. (of_b.stated n).1 ((of_a.stated n).0 has)) (λ n has. (of_a.stated n).1 ((of_b.stated n).0 has))

-- there are none of a supplier that is not of the parts
froms_none : (parts : PartsData) (i : ℕ) (froms : List ℕ) → All (IsPriceRow parts.suppliers (length parts.needs)) parts.prices → parts.suppliers ≤ i → AreFroms parts i froms → length froms ≡ 0
froms_none parts i [] formed past are = refl
froms_none parts i (from ∷ froms) formed past are =
    let below = stated_supplier parts i from formed ((are.stated from).0 (0, omega arith, refl)) in
    absurd (omega arith)

-- one supplier more
pub few_more : (parts : PartsData) (n : ℕ) (new : List ℕ) → ((i : ℕ) (froms : List ℕ) → i < n → AreFroms parts i froms → length froms ≤ INTERVALS_MAX)
    → AreFroms parts n new → length new ≤ INTERVALS_MAX → (i : ℕ) (froms : List ℕ) → i < n + 1 → AreFroms parts i froms → length froms ≤ INTERVALS_MAX
few_more parts n new each are few i froms below froms_are = elim (cases_lt i n) [
  | inl before ↦ each i froms before froms_are
  | inr at_end ↦ (let same : i ≡ n = omega arith in
      let one = froms_one parts n froms new (subst (λ (j : ℕ). AreFroms parts j froms) same froms_are) are in
      omega (arith, ap length one))
]

-- every supplier of the parts, and so every one
pub few_all : (parts : PartsData) → IsInRanges parts → ((i : ℕ) (froms : List ℕ) → i < parts.suppliers → AreFroms parts i froms → length froms ≤ INTERVALS_MAX) → HasFewIntervals parts
few_all parts ranges each = λ i froms are. elim (cases_lt i parts.suppliers) [
  | inl below ↦ each i froms below are
  | inr past ↦ omega (arith, froms_none parts i froms ranges.prices past are)
]

-- the parts of being well formed, together
pub formed_from : (parts : PartsData) → IsInRanges parts → HasKeysOnce parts → HasFewIntervals parts → IsWellFormed parts
formed_from parts ranges once few = record {
  suppliers = ranges.suppliers;
  needs = ranges.needs;
  prices = ranges.prices;
  stocks = ranges.stocks;
  totals = ranges.totals;
  shares = ranges.shares;
  fees = ranges.fees;
  overs = ranges.overs;
  least_winners = ranges.least_winners;
  most_winners = ranges.most_winners;
  one_price = once.one_price;
  one_stock = once.one_stock;
  one_total = once.one_total;
  one_share = once.one_share;
  one_fee = once.one_fee;
  one_over = once.one_over;
  few_intervals = few;
}
