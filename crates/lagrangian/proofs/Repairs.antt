-- Rooms of boxes, and picks that are changed.
use Rattle.std.proofs.Common.{ℕ, ◌≡◌, ◌+◌, ◌<◌, ◌≤◌, max, min, List, length, set, slice_index, subst, sym, ap, ◌∙◌, arith, inl, inr, length-set, get_or-set_same, get_or-set_other}
use Rattle.std.proofs.lemmas.Bool.{cases_lt, cases_eq}
use Rattle.tqd_instance.specs.declared.job.Job.{Job}
use Rattle.tqd_instance.specs.Job.{suppliers, segments, low, high}
use Rattle.tqd_instance.proofs.Jobs.{job_in_range}
use Rattle.interval_box.specs.declared.boxes.IntervalBox.{IntervalBox}
use Rattle.interval_box.specs.Ranges.{low_of, high_of, Admits, IsBoxOf}
use Rattle.interval_box.specs.Winners.{WinnersFail}
use Rattle.interval_box.specs.Singles.{IsOfPicks}
use Rattle.interval_box.proofs.Root.{same_boxes}
use Rattle.lagrangian.specs.Repair.{needs, mosts, lows, highs, HasRoomFor, IsRepaired, ArePicks, held, AreHeld, IsHeld}

pub no_room_above : (job : Job) (area : IntervalBox) → mosts job < lows job area → HasRoomFor job area → ⊥
no_room_above job area above r = omega (arith, r.not_too_many)

pub no_room_below : (job : Job) (area : IntervalBox) → highs job area < needs job → HasRoomFor job area → ⊥
no_room_below job area below r = omega (arith, r.enough)

pub no_room_winners : (job : Job) (area : IntervalBox) → WinnersFail job area → HasRoomFor job area → ⊥
no_room_winners job area fails r = r.winners fails

pub ruleset room = (no_room_above, no_room_below, no_room_winners)

-- segment 0 has the total 0 alone
pub low_none : (job : Job) (i j : ℕ) → i < suppliers job → j ≡ 0 → low job i j ≡ 0
low_none job i j below none = ap (low job i) none ∙ ((job_in_range job).each_supplier i below).nothing_low

pub high_none : (job : Job) (i j : ℕ) → i < suppliers job → j ≡ 0 → high job i j ≡ 0
high_none job i j below none = ap (high job i) none ∙ ((job_in_range job).each_supplier i below).nothing_high

-- the picks with another one
pub picks_more : (job : Job) (area : IntervalBox) (picks : List ℕ) (n j : ℕ) → ArePicks job area picks → n < suppliers job → Admits area n j → ArePicks job area (set picks n j)
picks_more job area picks n j a below admits = record {
  count = length-set picks n j ∙ a.count;
  admitted = λ i inside. elim (cases_eq i n) [
    | inl here ↦
        (let place : n < length picks = omega (arith, a.count, (job_in_range job).few_suppliers) in
        subst (λ m. Admits area m (slice_index (set picks n j) m)) (sym here) (subst (Admits area n) (sym (get_or-set_same picks n j 0 place)) admits))
    | inr other ↦ subst (Admits area i) (sym (get_or-set_other picks n i j 0 other)) (a.admitted i inside)
  ];
}

pub pick_within : (job : Job) (area : IntervalBox) (picks : List ℕ) → IsBoxOf job area → ArePicks job area picks → (i : ℕ) → i < suppliers job → slice_index picks i ≤ segments job i
pick_within job area picks b a i below = omega (arith, (a.admitted i below).to_high, (b.ranges i below).within)

-- a single box of picks that has room
pub is_repaired : (job : Job) (area single : IntervalBox) (picks : List ℕ) → ArePicks job area picks → IsOfPicks job picks single → HasRoomFor job single → IsRepaired job area single
is_repaired job area single picks a p r = record {
  of_job = p.of_job;
  is_single = λ i below. (p.alone i below).low ∙ sym (p.alone i below).high;
  part = λ i below.
      (let alone = p.alone i below in
      let admits = a.admitted i below in
      record { low = omega (arith, alone.low, admits.from_low); high = omega (arith, alone.high, admits.to_high) });
  room = r;
}

pub supplier_few : (job : Job) (i : ℕ) → i < suppliers job → i < 64
supplier_few job i below = omega (arith, (job_in_range job).few_suppliers)

pub range_few : (job : Job) (area : IntervalBox) (i high : ℕ) → IsBoxOf job area → i < suppliers job → high ≡ high_of area i → high ≤ 16
range_few job area i high b below is = omega (arith, (b.ranges i below).within, ((job_in_range job).each_supplier i below).few)

single_low : (job : Job) (area a b : IntervalBox) (picks chosen : List ℕ) → IsOfPicks job chosen a → AreHeld job area picks chosen → IsHeld job area picks b → (i : ℕ) → low_of a i ≡ low_of b i
single_low job area a b picks chosen p held h i = elim (cases_lt i (suppliers job)) [
  | inl below ↦ omega (arith, (p.alone i below).low, (h.alone i below).low, held i below)
  | inr past ↦ omega (arith, (p.of_job.others i past).low, (h.of_job.others i past).low)
]

single_high : (job : Job) (area a b : IntervalBox) (picks chosen : List ℕ) → IsOfPicks job chosen a → AreHeld job area picks chosen → IsHeld job area picks b → (i : ℕ) → high_of a i ≡ high_of b i
single_high job area a b picks chosen p held h i = elim (cases_lt i (suppliers job)) [
  | inl below ↦ omega (arith, (p.alone i below).high, (h.alone i below).high, held i below)
  | inr past ↦ omega (arith, (p.of_job.others i past).high, (h.of_job.others i past).high)
]

-- the box of the held picks is one
pub one_single : (job : Job) (area a b : IntervalBox) (picks chosen : List ℕ) → IsOfPicks job chosen a → AreHeld job area picks chosen → IsHeld job area picks b → a ≡ b
one_single job area a b picks chosen p held h =
    same_boxes a b (omega (arith, p.of_job.low_places, h.of_job.low_places)) (omega (arith, p.of_job.high_places, h.of_job.high_places))
    (single_low job area a b picks chosen p held h) (single_high job area a b picks chosen p held h)

-- while the box of the held picks has room, none of them was changed
abbrev pub KeepsHeld : Job → IntervalBox → List ℕ → ℕ → List ℕ → Type 0
KeepsHeld job area picks changes chosen = (b : IntervalBox) → IsHeld job area picks b → HasRoomFor job b → (changes ≡ 0) × AreHeld job area picks chosen

pub kept_single : (job : Job) (area a b : IntervalBox) (picks chosen : List ℕ) (changes : ℕ) → KeepsHeld job area picks changes chosen → IsOfPicks job chosen a
    → IsHeld job area picks b → HasRoomFor job b → a ≡ b
kept_single job area a b picks chosen changes k p h room = one_single job area a b picks chosen p (k b h room).1 h

pub no_kept : (job : Job) (area a b : IntervalBox) (picks chosen : List ℕ) (changes : ℕ) → KeepsHeld job area picks changes chosen → IsOfPicks job chosen a
    → (HasRoomFor job a → ⊥) → IsHeld job area picks b → HasRoomFor job b → ⊥
no_kept job area a b picks chosen changes k p none h room = none (subst (HasRoomFor job) (sym (kept_single job area a b picks chosen changes k p h room)) room)

-- a pick that is held within a range, as it is computed
pub held_is : (area : IntervalBox) (picks : List ℕ) (i a b : ℕ) → a ≡ max (slice_index picks i) (low_of area i) → b ≡ min a (high_of area i) → b ≡ held area picks i
unfolding held
held_is area picks i a b first last = omega (arith, first, last)

pub held_admitted : (area : IntervalBox) (picks : List ℕ) (i : ℕ) → low_of area i ≤ high_of area i → Admits area i (held area picks i)
unfolding held
held_admitted area picks i ordered = record { from_low = omega arith; to_high = omega arith }

pub held_more : (area : IntervalBox) (picks clamped : List ℕ) (n b : ℕ) → n < length clamped → b ≡ held area picks n → ((m : ℕ) → m < n → slice_index clamped m ≡ held area picks m)
    → (m : ℕ) → m < n + 1 → slice_index (set clamped n b) m ≡ held area picks m
held_more area picks clamped n b place is done m less = elim (cases_lt m n) [
  | inl before ↦ get_or-set_other clamped n m b 0 (λ e. omega arith) ∙ done m before
  | inr here ↦
      (let same : n ≡ m = omega arith in
      subst (λ k. slice_index (set clamped n b) k ≡ held area picks k) same (get_or-set_same clamped n b 0 place ∙ is))
]

pub held_picks : (job : Job) (area : IntervalBox) (picks clamped : List ℕ) → IsBoxOf job area → length clamped ≡ 64 → AreHeld job area picks clamped → ArePicks job area clamped
held_picks job area picks clamped b size done = record {
  count = size;
  admitted = λ i below. subst (Admits area i) (sym (done i below)) (held_admitted area picks i (b.ranges i below).ordered);
}
