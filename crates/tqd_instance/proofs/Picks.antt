-- The segment that a total selects.
use Rattle.std.proofs.Common.{ℕ, suc, zero, ◌≡◌, ◌+◌, ◌<◌, ◌≤◌, Bool, true, false, length, get_or, Some, None, arith, refl, ap, inl, inr, add-one}
use Rattle.std.proofs.lemmas.Bool.{cases_lt}
use Rattle.tqd_instance.specs.declared.job.Job.{Job}
use Rattle.tqd_instance.specs.Offer.{no_segment, holds}
use Rattle.tqd_instance.specs.Job.{suppliers, supplier_at, segment_at, segments, low, high, pick}
use Rattle.tqd_instance.specs.InRange.{IsSupplierInRange}
use Rattle.tqd_instance.specs.Picks.{LiesIn, PicksWhereItLies}
use Rattle.tqd_instance.proofs.Places.{place_of-none, place_of-first, place_of-some, holds-true, holds_low, holds_high}
use Rattle.tqd_instance.proofs.Jobs.{supplier_is, job_in_range}

-- an earlier segment ends below a later one
pub rises : (job : Job) (i : ℕ) → i < suppliers job → (k j : ℕ) → k < j → j ≤ segments job i → high job i k < low job i j
rises job i h k zero less within = absurd (omega arith)
rises job i h k (suc m) less within =
    let s = (job_in_range job).each_supplier i h in
    elim (cases_lt k m) [
      | inl before ↦
          (let rest = rises job i h k m before (omega arith) in
          let here = s.each_segment m (omega arith) (omega arith) in
          let next : low job i (suc m) ≡ high job i m + 1 = rw (← add-one m) (s.contiguous m (omega arith) (omega arith)) in
          omega (arith, here.ordered))
      | inr last ↦ last_rises job i s k m (omega arith) within
    ]
  where
    last_rises : (job : Job) (i : ℕ) → IsSupplierInRange job i → (k m : ℕ) → k ≡ m → suc m ≤ segments job i → high job i k < low job i (suc m)
    last_rises job i s k zero same within =
        let first = s.each_segment 1 (omega arith) within in
        omega (arith, ap (high job i) same, s.nothing_high, first.from_one)
    last_rises job i s k (suc m) same within =
        let next : low job i (suc (suc m)) ≡ high job i (suc m) + 1 = rw (← add-one (suc m)) (s.contiguous (suc m) (omega arith) (omega arith)) in
        omega (arith, ap (high job i) same)

-- a segment holds a total where the total lies between its ends
lies : (job : Job) (i j total : ℕ) → i < suppliers job → j < length (supplier_at job i).segments
    → holds total (get_or (supplier_at job i).segments j no_segment) ≡ true → LiesIn job i j total
unfolding segments low high segment_at
lies job i j total h below here = record {
  segment = omega arith;
  from_low = holds_low total (get_or (supplier_at job i).segments j no_segment) here;
  to_high = holds_high total (get_or (supplier_at job i).segments j no_segment) here;
}

lies_not : (job : Job) (i j total : ℕ) → i < suppliers job → j < length (supplier_at job i).segments
    → (LiesIn job i j total → ⊥) → holds total (get_or (supplier_at job i).segments j no_segment) ≡ false
lies_not job i j total h below not_in = elim_bool (holds total (get_or (supplier_at job i).segments j no_segment)) (λ here. not_in (lies job i j total h below here))
  where
    elim_bool : (b : Bool) → (b ≡ true → ⊥) → b ≡ false
    elim_bool true not_true = absurd (not_true refl)
    elim_bool false not_true = refl

-- the place of a segment is below the number of segments, segment 0 among them
place_below : (job : Job) (i j : ℕ) → i < suppliers job → j ≤ segments job i → j < length (supplier_at job i).segments
unfolding segments
place_below job i j h within = let s = supplier_is job i h in omega (arith, s.some)

lies_here : (job : Job) (i j total : ℕ) → i < suppliers job → LiesIn job i j total → holds total (get_or (supplier_at job i).segments j no_segment) ≡ true
unfolding low high segment_at
lies_here job i j total h l = holds-true total (get_or (supplier_at job i).segments j no_segment) l.from_low l.to_high

picked : (job : Job) (i j total : ℕ) → i < suppliers job → LiesIn job i j total → pick job i total ≡ Some j
unfolding pick
picked job i j total h l =
    place_of-first total (supplier_at job i).segments j (place_below job i j h l.segment) (lies_here job i j total h l)
    (λ k less. lies_not job i k total h (let b = place_below job i j h l.segment in omega arith)
    (λ other. let r = rises job i h k j less l.segment in omega (arith, other.to_high, l.from_low)))

lies_from_pick : (job : Job) (i j total : ℕ) → i < suppliers job → pick job i total ≡ Some j → LiesIn job i j total
unfolding pick
lies_from_pick job i j total h is =
    let found = place_of-some total (supplier_at job i).segments j is in
    lies job i j total h found.0 found.1

none_from_lies : (job : Job) (i total : ℕ) → i < suppliers job → ((j : ℕ) → LiesIn job i j total → ⊥) → pick job i total ≡ None
unfolding pick
none_from_lies job i total h nowhere =
    place_of-none total (supplier_at job i).segments (λ k below. lies_not job i k total h below (nowhere k))

pub picks_where_it_lies : (job : Job) (i total : ℕ) → i < suppliers job → PicksWhereItLies job i total
picks_where_it_lies job i total h = record {
  some = λ j. (lies_from_pick job i j total h, picked job i j total h);
  none = ((λ is j l. let some = picked job i j total h l in cc), none_from_lies job i total h);
}
