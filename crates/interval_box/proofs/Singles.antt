-- How the single box of picks is made.
use Rattle.std.proofs.Common.{ℕ, List, get_or, set, length-set, get_or-set_same, get_or-set_other, ◌≡◌, ◌+◌, ◌<◌, ◌≤◌, length, slice_index, arith, inl, inr}
use Rattle.std.proofs.lemmas.Bool.{cases_lt}
use Rattle.tqd_instance.specs.declared.job.Job.{Job}
use Rattle.tqd_instance.specs.Job.{suppliers, segments}
use Rattle.tqd_instance.proofs.Jobs.{job_in_range}
use Rattle.interval_box.specs.declared.boxes.IntervalBox.{IntervalBox}
use Rattle.interval_box.specs.Ranges.{low_of, high_of, IsZero, IsUnused}
use Rattle.interval_box.specs.Singles.{IsAlone, IsOfPicks}

-- the box while it is made: the first suppliers have their picks
pub record IsPickedTo (area : IntervalBox) (picks : List ℕ) (n : ℕ) : Type 0 where
  pub low_places : length area.lows ≡ 64
  pub high_places : length area.highs ≡ 64
  pub alone : (k : ℕ) → k < n → IsAlone area k (slice_index picks k)
  pub others : (k : ℕ) → n ≤ k → IsUnused area k

pub picked_none : (area : IntervalBox) (picks : List ℕ) → IsZero area → IsPickedTo area picks 0
picked_none area picks z = record {
  low_places = z.low_places;
  high_places = z.high_places;
  alone = λ k below. absurd (omega arith);
  others = λ k past. z.unused k;
}

pub picked_more : (job : Job) (area : IntervalBox) (picks : List ℕ) (n : ℕ) → n < suppliers job → IsPickedTo area picks n
    → IsPickedTo (record { lows = set area.lows n (slice_index picks n); highs = set area.highs n (slice_index picks n) }) picks (n + 1)
unfolding low_of high_of
picked_more job area picks n below b =
    let few = (job_in_range job).few_suppliers in
    let pick = slice_index picks n in
    let low_place : n < length area.lows = omega (arith, b.low_places) in
    let high_place : n < length area.highs = omega (arith, b.high_places) in
    record {
      low_places = omega (arith, length-set area.lows n pick, b.low_places);
      high_places = omega (arith, length-set area.highs n pick, b.high_places);
      alone = λ k less. elim (cases_lt k n) [
        | inl before ↦
            (let other : k ≡ n → ⊥ = λ e. omega arith in
            let old = b.alone k before in
            record { low = omega (arith, get_or-set_other area.lows n k pick 0 other, old.low); high = omega (arith, get_or-set_other area.highs n k pick 0 other, old.high) })
        | inr here ↦
            (let same : n ≡ k = omega arith in
            rw (← same) (record { low = get_or-set_same area.lows n pick 0 low_place; high = get_or-set_same area.highs n pick 0 high_place }))
      ];
      others = λ k past.
          (let other : k ≡ n → ⊥ = λ e. omega arith in
          let old = b.others k (omega arith) in
          record { low = omega (arith, get_or-set_other area.lows n k pick 0 other, old.low); high = omega (arith, get_or-set_other area.highs n k pick 0 other, old.high) });
    }

pub picked_all : (job : Job) (area : IntervalBox) (picks : List ℕ) (n : ℕ) → suppliers job ≤ n → n ≤ suppliers job
    → ((i : ℕ) → i < suppliers job → slice_index picks i ≤ segments job i) → IsPickedTo area picks n → IsOfPicks job picks area
picked_all job area picks n all within known b = record {
  of_job = record {
    low_places = b.low_places;
    high_places = b.high_places;
    ranges = λ i below. (let a = b.alone i (omega arith) in record { ordered = omega (arith, a.low, a.high); within = omega (arith, a.high, known i below) });
    others = λ i past. b.others i (omega arith);
  };
  alone = λ i below. b.alone i (omega arith);
}
