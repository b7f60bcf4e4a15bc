-- All that is needed may be bought from the first supplier.
use Rattle.std.proofs.Common.{ℕ, suc, zero, ◌≡◌, ◌+◌, ◌-◌, ◌*◌, ◌/◌, ◌<◌, ◌≤◌, ◌==◌, true, List, [], ◌∷◌, length, get_or, max, min, sum, Option, Some, None, IsSome, if◌then◌else◌, arith, refl, ap, ◌∙◌, inl, inr}
use Rattle.std.proofs.lemmas.Bool.{cases_lt}
use Rattle.std.proofs.lemmas.Bool.Decides.{nat_tests}
use Rattle.tqd_base.specs.declared.limits.TheConstants.{QTY_MAX}
use Rattle.tqd_base.specs.Sum.{sum_to}
use Rattle.tqd_instance.specs.declared.job.Job.{Job}
use Rattle.tqd_instance.specs.declared.supplier.Segment.{Segment}
use Rattle.tqd_instance.specs.PartsData.{PartsData}
use Rattle.tqd_instance.specs.Job.{goods, suppliers, need, stock, segments, low, high, pick, supplier_at, segment_at, least_winners, most_winners}
use Rattle.tqd_instance.specs.Offer.{no_segment}
use Rattle.tqd_instance.specs.Purchase.{Purchase, total, bought, wins, winners}
use Rattle.tqd_instance.specs.Feasible.{Feasible, MeetsNeed, MeetsWinners}
use Rattle.tqd_instance.specs.Picks.{LiesIn}
use Rattle.tqd_instance.specs.Built.{IsJobOf, IsSupplierOf, Interval, Limits, limits_of, intervals, cut, has_total, segment_of, segments_of, nothing_segment, stock_of}
use Rattle.tqd_instance.proofs.Jobs.{job_in_range}
use Rattle.tqd_instance.proofs.Picks.{picks_where_it_lies}
use Rattle.tqd_instance.proofs.SumLemmas.{sum_to-zero, sum_to-suc, sum_to-zeros, sum_to-bound, sum_to-term}
use Rattle.tqd_instance.proofs.Tables.{get_or-table}
use Rattle.order_gen.specs.declared.offers.Starts.{Starts}
use Rattle.order_gen.proofs.Made.{IsMade}
use Rattle.order_gen.proofs.MadeForm.{three, are_three, all_offered}

-- the need of each good, from the first supplier
abbrev pub from_first : Job → Purchase
from_first job zero k = need job k
from_first job (suc i) k = 0

sum_first : (n : ℕ) (f : ℕ → ℕ) → ((i : ℕ) → f (suc i) ≡ 0) → sum_to (suc n) f ≡ f 0
sum_first zero f rest = omega (arith, sum_to-suc 0 f, sum_to-zero f)
sum_first (suc n) f rest = omega (arith, sum_to-suc (suc n) f, sum_first n f rest, rest n)

sum_first_some : (n : ℕ) (f : ℕ → ℕ) → 1 ≤ n → ((i : ℕ) → f (suc i) ≡ 0) → sum_to n f ≡ f 0
sum_first_some zero f some rest = absurd (omega arith)
sum_first_some (suc n) f some rest = sum_first n f rest

le_test : (from a b : ℕ) → a ≤ b → has_total (record { from = from; low = a; high = b }) ≡ true
le_test from a b le = grind (arith, nat_tests)

-- without terms nothing is cut off
pub whole : Limits
whole = record { least = 0; most = QTY_MAX }

no_least : (s : ℕ) → (0 * s + 999) / 1000 ≡ 0
no_least s = omega arith

no_limits : (starts : Starts) (parts : PartsData) (i : ℕ) → IsMade starts parts → limits_of parts i ≡ whole
unfolding limits_of whole
no_limits starts parts i made =
    rw (made.no_shares, made.no_totals) (ap (λ (n : ℕ). let l : Limits = record { least = n; most = QTY_MAX } in l) (no_least (sum parts.needs)))

abbrev pub first_interval : Starts → Interval
first_interval starts = record { from = 1; low = 1; high = starts.second - 1 }

abbrev pub second_interval : Starts → Interval
second_interval starts = record { from = starts.second; low = starts.second; high = starts.third - 1 }

abbrev pub third_interval : Starts → Interval
third_interval starts = record { from = starts.third; low = starts.third; high = QTY_MAX }

kept : (interval : Interval) → interval.low ≤ interval.high → interval.high ≤ QTY_MAX → has_total (cut whole interval) ≡ true
unfolding whole
kept interval ordered within = le_test interval.from (max 0 interval.low) (min QTY_MAX interval.high) (omega arith)

-- the segments of a supplier: one for each interval
pub segments_three : (starts : Starts) (parts : PartsData) (i : ℕ) → IsMade starts parts
    → segments_of parts i (three starts) ≡ nothing_segment parts
    ∷ segment_of parts i (cut whole (first_interval starts))
    ∷ segment_of parts i (cut whole (second_interval starts))
    ∷ segment_of parts i (cut whole (third_interval starts))
    ∷ []
unfolding segments_of intervals
segments_three starts parts i made =
    let rise = made.rising in
    let a = kept (first_interval starts) (omega (arith, rise.after_one)) (omega (arith, rise.after_second, made.third)) in
    let b = kept (second_interval starts) (omega (arith, rise.after_second)) (omega (arith, made.third)) in
    let c = kept (third_interval starts) (omega (arith, made.third)) (omega arith) in
    rw (no_limits starts parts i made, a, b, c) refl

-- a supplier with three segments that begin at these numbers, the last one ending at the greatest quantity
pub record HasThree (job : Job) (i : ℕ) (starts : Starts) : Type 0 where
  pub count : segments job i ≡ 3
  pub first_low : low job i 1 ≡ 1
  pub first_high : high job i 1 ≡ starts.second - 1
  pub second_low : low job i 2 ≡ starts.second
  pub second_high : high job i 2 ≡ starts.third - 1
  pub third_low : low job i 3 ≡ starts.third
  pub third_high : high job i 3 ≡ QTY_MAX

supplier_is : (parts : PartsData) (job : Job) (i : ℕ) → IsJobOf parts job → i < parts.suppliers → IsSupplierOf parts i (supplier_at job i)
unfolding supplier_at
supplier_is parts job i of below = of.suppliers i below

has_three : (starts : Starts) (parts : PartsData) (job : Job) (i : ℕ) → IsMade starts parts → IsJobOf parts job → i < parts.suppliers → HasThree job i starts
unfolding segments low high segment_at segment_of whole
has_three starts parts job i made of below =
    let rise = made.rising in
    let few = made.third in
    let is = (supplier_is parts job i of below).segments (three starts) (are_three starts parts i made below) ∙ segments_three starts parts i made in
    record {
      count = ap (λ (xs : List Segment). length xs - 1) is;
      first_low = omega (arith, ap (λ (xs : List Segment). (get_or xs 1 no_segment).low) is);
      first_high = omega (arith, ap (λ (xs : List Segment). (get_or xs 1 no_segment).high) is);
      second_low = omega (arith, ap (λ (xs : List Segment). (get_or xs 2 no_segment).low) is);
      second_high = omega (arith, ap (λ (xs : List Segment). (get_or xs 2 no_segment).high) is);
      third_low = omega (arith, ap (λ (xs : List Segment). (get_or xs 3 no_segment).low) is);
      third_high = omega (arith, ap (λ (xs : List Segment). (get_or xs 3 no_segment).high) is);
    }

-- every total up to the greatest quantity is in one of them
lies_in_three : (starts : Starts) (job : Job) (i t : ℕ) → HasThree job i starts → 1 ≤ t → t ≤ QTY_MAX → (j : ℕ) × LiesIn job i j t
lies_in_three starts job i t h some few = elim (cases_lt t starts.second) [
  | inl before ↦ (1, record { segment = omega (arith, h.count); from_low = omega (arith, h.first_low); to_high = omega (arith, h.first_high) })
  | inr second ↦ elim (cases_lt t starts.third) [
    | inl before ↦ (2, record { segment = omega (arith, h.count); from_low = omega (arith, h.second_low); to_high = omega (arith, h.second_high) })
    | inr third ↦ (3, record { segment = omega (arith, h.count); from_low = omega (arith, h.third_low); to_high = omega (arith, h.third_high) })
  ]
]

some_is : (o : Option ℕ) (j : ℕ) → o ≡ Some j → IsSome o
some_is (Some k) j is = cc
some_is None j is = absurd (cc)

picks_some : (job : Job) (i t j : ℕ) → i < suppliers job → LiesIn job i j t → IsSome (pick job i t)
picks_some job i t j below l = some_is (pick job i t) j (((picks_where_it_lies job i t below).some j).1 l)

-- nothing is bought in segment 0
nothing_lies : (job : Job) (i t : ℕ) → i < suppliers job → t ≡ 0 → LiesIn job i 0 t
nothing_lies job i t below none =
    let s = (job_in_range job).each_supplier i below in
    record { segment = omega arith; from_low = omega (arith, s.nothing_low); to_high = omega (arith, s.nothing_high) }

goods_are : (parts : PartsData) (job : Job) → IsJobOf parts job → goods job ≡ length parts.needs
unfolding goods
goods_are parts job of = ap length of.needs

suppliers_are : (parts : PartsData) (job : Job) → IsJobOf parts job → suppliers job ≡ parts.suppliers
unfolding suppliers
suppliers_are parts job of = of.count

need_few : (starts : Starts) (parts : PartsData) (job : Job) (k : ℕ) → IsMade starts parts → IsJobOf parts job → k < length parts.needs → need job k ≤ 1000
unfolding need
need_few starts parts job k made of below = omega (arith, (made.needs k 0 below).few, ap (λ xs. get_or xs k 0) of.needs)

stock_full : (starts : Starts) (parts : PartsData) (job : Job) (i k : ℕ) → IsMade starts parts → IsJobOf parts job → i < parts.suppliers → k < length parts.needs
    → stock job i k ≡ QTY_MAX
unfolding stock stock_of
stock_full starts parts job i k made of i_in k_in =
    ap (λ xs. get_or xs k 0) (supplier_is parts job i of i_in).stocks
    ∙ get_or-table (length parts.needs) (stock_of parts i) k 0 k_in
    ∙ rw (all_offered starts parts i k made i_in k_in, made.no_stocks) refl

wins_few : (n : ℕ) → (if n == 0 then 0 else 1) ≤ 1
wins_few n = grind (arith, nat_tests)

total_first : (starts : Starts) (parts : PartsData) (job : Job) → IsMade starts parts → IsJobOf parts job
    → (1 ≤ total job (from_first job) 0) × (total job (from_first job) 0 ≤ QTY_MAX)
unfolding total
total_first starts parts job made of =
    let size = goods_are parts job of in
    let some = (job_in_range job).each_good 0 (omega (arith, made.some_goods)) in
    let term = sum_to-term (goods job) (from_first job 0) 0 (omega (arith, made.some_goods)) in
    let bound = sum_to-bound (goods job) 1000 (from_first job 0) (λ k below. need_few starts parts job k made of (omega arith)) in
    (omega (arith, some.some), omega (arith, made.few_goods))

total_rest : (job : Job) (i : ℕ) → total job (from_first job) (suc i) ≡ 0
unfolding total
total_rest job i = sum_to-zeros (goods job) (from_first job (suc i)) (λ k below. refl)

has_picks : (starts : Starts) (parts : PartsData) (job : Job) (i : ℕ) → IsMade starts parts → IsJobOf parts job → i < suppliers job
    → IsSome (pick job i (total job (from_first job) i))
has_picks starts parts job zero made of below =
    let t = total_first starts parts job made of in
    let l = lies_in_three starts job 0 (total job (from_first job) 0) (has_three starts parts job 0 made of (omega (arith, made.some_suppliers))) t.0 t.1 in
    picks_some job 0 (total job (from_first job) 0) l.0 below l.1
has_picks starts parts job (suc i) made of below =
    picks_some job (suc i) (total job (from_first job) (suc i)) 0 below (nothing_lies job (suc i) (total job (from_first job) (suc i)) below (total_rest job i))

meets_need : (starts : Starts) (parts : PartsData) (job : Job) (k : ℕ) → IsMade starts parts → IsJobOf parts job → k < goods job → MeetsNeed job (from_first job) k
unfolding bought
meets_need starts parts job k made of below =
    let good = (job_in_range job).each_good k below in
    let all = sum_first_some (suppliers job) (λ i. from_first job i k) (omega (arith, made.some_suppliers, suppliers_are parts job of)) (λ i. refl) in
    record { enough = omega (arith, all); not_more = omega (arith, all, good.ordered) }

meets_stock : (starts : Starts) (parts : PartsData) (job : Job) (i k : ℕ) → IsMade starts parts → IsJobOf parts job → i < suppliers job → k < goods job
    → from_first job i k ≤ stock job i k
meets_stock starts parts job zero k made of i_in k_in =
    omega (arith, need_few starts parts job k made of (omega (arith, goods_are parts job of)), stock_full starts parts job 0 k made of (omega (arith, suppliers_are parts job of)) (omega (arith, goods_are parts job of)))
meets_stock starts parts job (suc i) k made of i_in k_in = omega arith

meets_winners : (starts : Starts) (parts : PartsData) (job : Job) → IsMade starts parts → IsJobOf parts job → MeetsWinners job (from_first job)
unfolding least_winners most_winners winners wins
meets_winners starts parts job made of =
    let bound = sum_to-bound (suppliers job) 1 (λ i. if total job (from_first job) i == 0 then 0 else 1) (λ i below. wins_few (total job (from_first job) i)) in
    record {
      enough = omega (arith, of.least_winners, made.least_winners);
      not_more = omega (arith, of.most_winners, made.most_winners, made.few_suppliers, suppliers_are parts job of);
    }

pub first_feasible : (starts : Starts) (parts : PartsData) (job : Job) → IsMade starts parts → IsJobOf parts job → Feasible job (from_first job)
first_feasible starts parts job made of = record {
  needs = λ k below. meets_need starts parts job k made of below;
  stocks = λ i k i_in k_in. meets_stock starts parts job i k made of i_in k_in;
  picks = λ i below. has_picks starts parts job i made of below;
  winners = meets_winners starts parts job made of;
}
