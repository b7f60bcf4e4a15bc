-- Where a total that keeps the bounds of a range lies.
use Rattle.std.proofs.Common.{ℕ, suc, zero, ◌≡◌, ◌+◌, ◌-◌, ◌<◌, ◌≤◌, Option, Some, None, max, arith, refl, ap, inl, inr}
use Rattle.std.specs.Prelude.{unwrap_or}
use Rattle.std.proofs.lemmas.Bool.{cases_lt}
use Rattle.tqd_instance.specs.declared.job.Job.{Job}
use Rattle.tqd_instance.specs.Job.{suppliers, segments, low, high, pick}
use Rattle.tqd_instance.specs.Purchase.{Purchase, total}
use Rattle.tqd_instance.specs.Picks.{LiesIn}
use Rattle.tqd_instance.proofs.Jobs.{job_in_range}
use Rattle.tqd_instance.proofs.Picks.{picks_where_it_lies, rises}
use Rattle.interval_box.specs.declared.boxes.IntervalBox.{IntervalBox}
use Rattle.interval_box.specs.Ranges.{low_of, high_of, Admits, IsBoxOf}
use Rattle.interval_box.specs.Halves.{IsProper}
use Rattle.branching.specs.Totals.{KeepsTotal}
use Rattle.branching.specs.Gap.{first_of, paid_segment}
use Rattle.branching.specs.Chosen.{IsWide}

-- a total between the low of a segment and the high of a later one lies in one of those between
lies_between : (job : Job) (i a n last t : ℕ) → i < suppliers job → 1 ≤ a → last ≡ a + n → last ≤ segments job i
    → low job i a ≤ t → t ≤ high job i last → (j : ℕ) × LiesIn job i j t
lies_between job i a zero last t h some is within from to =
    let same : last ≡ a = omega arith in
    (a, record { segment = omega arith; from_low = from; to_high = omega (arith, ap (high job i) same) })
lies_between job i a (suc n) last t h some is within from to = elim (cases_lt t (low job i last)) [
  | inl before ↦
      (let s = (job_in_range job).each_supplier i h in
      let next : last ≡ (a + n) + 1 = omega arith in
      let joined = s.contiguous (a + n) (omega arith) (omega arith) in
      lies_between job i a n (a + n) t h some (omega arith) (omega arith) from (omega (arith, ap (low job i) next)))
  | inr here ↦ (last, record { segment = within; from_low = here; to_high = to })
]

-- the pick of such a total is in the range
pub pick_admitted : (job : Job) (area : IntervalBox) (x : Purchase) (i p : ℕ) → IsBoxOf job area → i < suppliers job
    → KeepsTotal job area x i → pick job i (total job x i) ≡ Some p → Admits area i p
pick_admitted job area x i p b h keeps is =
    let l = ((picks_where_it_lies job i (total job x i) h).some p).0 is in
    let r = b.ranges i h in
    record {
      from_low = elim (cases_lt p (low_of area i)) [
        | inl below ↦ absurd (omega (arith, rises job i h p (low_of area i) below (omega (arith, r.ordered, r.within)), l.to_high, keeps.from_low))
        | inr in_range ↦ in_range
      ];
      to_high = elim (cases_lt (high_of area i) p) [
        | inl above ↦ absurd (omega (arith, rises job i h (high_of area i) p above l.segment, l.from_low, keeps.to_high))
        | inr in_range ↦ in_range
      ];
    }

-- where such a total has no pick, the range begins at 0
pub unpicked_from_zero : (job : Job) (area : IntervalBox) (x : Purchase) (i : ℕ) → IsBoxOf job area → i < suppliers job
    → KeepsTotal job area x i → pick job i (total job x i) ≡ None → low_of area i ≡ 0
unpicked_from_zero job area x i b h keeps is = elim (cases_lt 0 (low_of area i)) [
  | inl some ↦
      (let r = b.ranges i h in
      let found = lies_between job i (low_of area i) (high_of area i - low_of area i) (high_of area i) (total job x i) h some
      (omega (arith, r.ordered)) r.within keeps.from_low keeps.to_high in
      absurd (((picks_where_it_lies job i (total job x i) h).none).0 is found.0 found.1))
  | inr none ↦ omega arith
]

-- segment 0 is picked by the total 0 alone
pub picks_nothing : (job : Job) (i t p : ℕ) → i < suppliers job → pick job i t ≡ Some p → p ≡ 0 → t ≡ 0
picks_nothing job i t p h is none =
    let l = ((picks_where_it_lies job i t h).some p).0 is in
    omega (arith, l.to_high, ap (high job i) none, ((job_in_range job).each_supplier i h).nothing_high)

pub paid_segment-some : (job : Job) (x : Purchase) (i t p : ℕ) → t ≡ total job x i → pick job i t ≡ Some p → paid_segment job x i ≡ p
unfolding paid_segment
paid_segment-some job x i t p e is = rw (← e, is)

pub paid_segment-none : (job : Job) (x : Purchase) (i t : ℕ) → t ≡ total job x i → pick job i t ≡ None → paid_segment job x i ≡ 1
unfolding paid_segment
paid_segment-none job x i t e is = rw (← e, is)

-- the segments that a gap may be taken at
pub record IsPayable (area : IntervalBox) (i p : ℕ) : Type 0 where
  pub from_first : first_of area i ≤ p
  pub to_last : p ≤ high_of area i

pub picked_payable : (job : Job) (area : IntervalBox) (x : Purchase) (i t p : ℕ) → IsBoxOf job area → IsWide job area i
    → KeepsTotal job area x i → t ≡ total job x i → (t ≡ 0 → ⊥) → pick job i t ≡ Some p → IsPayable area i p
unfolding first_of
picked_payable job area x i t p b w keeps e some is =
    let a = pick_admitted job area x i p b w.supplier keeps (rw (← e) is) in
    let positive : p ≡ 0 → ⊥ = λ none. some (picks_nothing job i t p w.supplier is none) in
    record { from_first = omega (arith, a.from_low); to_last = a.to_high }

pub unpicked_payable : (job : Job) (area : IntervalBox) (x : Purchase) (i t : ℕ) → IsBoxOf job area → IsWide job area i
    → KeepsTotal job area x i → t ≡ total job x i → pick job i t ≡ None → IsPayable area i 1
unfolding first_of
unpicked_payable job area x i t b w keeps e is =
    let zero_low = unpicked_from_zero job area x i b w.supplier keeps (rw (← e) is) in
    record { from_first = omega arith; to_last = omega (arith, w.wide) }

-- the number of the split lies in the range, below its last
pub proper_below : (job : Job) (area : IntervalBox) (x : Purchase) (i t p : ℕ) → IsBoxOf job area → IsWide job area i
    → KeepsTotal job area x i → t ≡ total job x i → pick job i t ≡ Some p → p < high_of area i → IsProper area i p
proper_below job area x i t p b w keeps e is below =
    let a = pick_admitted job area x i p b w.supplier keeps (rw (← e) is) in
    record { from_low = a.from_low; below_high = below }

pub proper_before : (job : Job) (area : IntervalBox) (x : Purchase) (i t p : ℕ) → IsBoxOf job area → IsWide job area i
    → KeepsTotal job area x i → t ≡ total job x i → pick job i t ≡ Some p → high_of area i ≤ p → IsProper area i (p - 1)
proper_before job area x i t p b w keeps e is last =
    let a = pick_admitted job area x i p b w.supplier keeps (rw (← e) is) in
    record { from_low = omega (arith, a.to_high, w.wide); below_high = omega (arith, a.to_high, w.wide) }

pub proper_none : (job : Job) (area : IntervalBox) (x : Purchase) (i t : ℕ) → IsBoxOf job area → IsWide job area i
    → KeepsTotal job area x i → t ≡ total job x i → pick job i t ≡ None → IsProper area i 0
proper_none job area x i t b w keeps e is =
    let zero_low = unpicked_from_zero job area x i b w.supplier keeps (rw (← e) is) in
    record { from_low = omega arith; below_high = omega (arith, w.wide) }
