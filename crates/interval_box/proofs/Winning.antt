-- How many suppliers a purchase in a box buys from.
use Rattle.std.proofs.Common.{ℕ, suc, zero, ◌≡◌, ◌<◌, ◌≤◌, ◌==◌, ◌⊎◌, Some, arith, ap, inl, inr, if◌then◌else◌}
use Rattle.std.proofs.lemmas.Bool.{cases_lt}
use Rattle.std.proofs.lemmas.Bool.Decides.{nat_tests}
use Rattle.std.proofs.lemmas.Option.{same_Some}
use Rattle.tqd_instance.specs.declared.job.Job.{Job}
use Rattle.tqd_instance.specs.Job.{suppliers, segments, low, high, pick, least_winners, most_winners}
use Rattle.tqd_instance.specs.Purchase.{Purchase, total, wins, winners}
use Rattle.tqd_instance.specs.Feasible.{Feasible}
use Rattle.tqd_instance.specs.Picks.{LiesIn}
use Rattle.tqd_instance.proofs.Jobs.{job_in_range}
use Rattle.tqd_instance.proofs.Picks.{picks_where_it_lies}
use Rattle.tqd_instance.proofs.SumLemmas.{sum_to-le}
use Rattle.interval_box.specs.declared.boxes.IntervalBox.{IntervalBox}
use Rattle.interval_box.specs.Ranges.{low_of, high_of, IsIn}
use Rattle.interval_box.specs.Winners.{must_win, may_win, sure_winners, possible_winners, WinnersFail}
use Rattle.interval_box.proofs.Picked.{Picked, picked}

-- the total 0 picks segment 0
zero_pick : (job : Job) (i t j : ℕ) → i < suppliers job → pick job i t ≡ Some j → t ≡ 0 → j ≡ 0
zero_pick job i t j below is none =
    let s = (job_in_range job).each_supplier i below in
    let first : LiesIn job i 0 t = record { segment = omega arith; from_low = omega (arith, s.nothing_low); to_high = omega (arith, s.nothing_high) } in
    let picks_first = ((picks_where_it_lies job i t below).some 0).1 first in
    same_Some j 0 (cc)

-- segment 0 is picked by the total 0 alone
pick_zero : (job : Job) (i t j : ℕ) → i < suppliers job → pick job i t ≡ Some j → j ≡ 0 → t ≡ 0
pick_zero job i t j below is none =
    let s = (job_in_range job).each_supplier i below in
    let l = ((picks_where_it_lies job i t below).some j).0 is in
    omega (arith, l.to_high, ap (high job i) none, s.nothing_high)

must_test : (low t : ℕ) → (t ≡ 0 → low ≡ 0) → (if low == 0 then 0 else 1) ≤ (if t == 0 then 0 else 1)
must_test low t h = grind (arith, nat_tests)

may_test : (high t : ℕ) → (high ≡ 0 → t ≡ 0) → (if t == 0 then 0 else 1) ≤ (if high == 0 then 0 else 1)
may_test high t h = grind (arith, nat_tests)

must_le : (job : Job) (area : IntervalBox) (x : Purchase) → IsIn job area x → (i : ℕ) → i < suppliers job → must_win area i ≤ wins job x i
unfolding must_win wins
must_le job area x inside i below =
    let p = picked job area x i (inside i below) in
    must_test (low_of area i) (total job x i)
    (λ none. omega (arith, zero_pick job i (total job x i) p.number below p.is none, p.admitted.from_low))

may_le : (job : Job) (area : IntervalBox) (x : Purchase) → IsIn job area x → (i : ℕ) → i < suppliers job → wins job x i ≤ may_win area i
unfolding may_win wins
may_le job area x inside i below =
    let p = picked job area x i (inside i below) in
    may_test (high_of area i) (total job x i)
    (λ none. pick_zero job i (total job x i) p.number below p.is (omega (arith, p.admitted.to_high)))

pub sure_le : (job : Job) (area : IntervalBox) (x : Purchase) → IsIn job area x → sure_winners job area ≤ winners job x
unfolding sure_winners winners
sure_le job area x inside = sum_to-le (suppliers job) (must_win area) (wins job x) (must_le job area x inside)

pub possible_le : (job : Job) (area : IntervalBox) (x : Purchase) → IsIn job area x → winners job x ≤ possible_winners job area
unfolding possible_winners winners
possible_le job area x inside = sum_to-le (suppliers job) (wins job x) (may_win area) (may_le job area x inside)

pub none_feasible : (job : Job) (area : IntervalBox) (x : Purchase) → WinnersFail job area → IsIn job area x → Feasible job x → ⊥
none_feasible job area x fails inside f = elim fails [
  | inl many ↦ omega (arith, sure_le job area x inside, f.winners.not_more)
  | inr few ↦ omega (arith, possible_le job area x inside, f.winners.enough)
]
