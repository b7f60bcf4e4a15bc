-- The root of a job as a value is its root.
use Rattle.std.proofs.Common.{ℕ, suc, zero, ◌≡◌, ◌-◌, ◌<◌, ◌≤◌, [], ◌∷◌, replicate, length, get_or, refl, ap, sym, ◌∙◌, arith, inl, inr, length-append}
use Rattle.std.proofs.lemmas.Bool.{cases_lt, lt-ltb, le-ltb}
use Rattle.std.proofs.lemmas.List.{length-replicate, get_or-replicate, get_or_past, get_or_append_left, get_or-append_right}
use Rattle.tqd_instance.specs.declared.job.Job.{Job}
use Rattle.tqd_instance.specs.Job.{suppliers, segments}
use Rattle.tqd_instance.proofs.Jobs.{job_in_range}
use Rattle.interval_box.specs.declared.boxes.IntervalBox.{IntervalBox}
use Rattle.interval_box.specs.Ranges.{low_of, high_of, IsRoot}
use Rattle.interval_box.proofs.Root.{root_is_one}
use Rattle.bound_tree.specs.Root.{values_to, last_segment, root_of}

pub length-values_to : (n : ℕ) (f : ℕ → ℕ) → length (values_to n f) ≡ n
unfolding values_to
length-values_to zero f = refl
length-values_to (suc n) f = omega (arith, length-append (values_to n f) (f n ∷ []), length-values_to n f)

values_to-at : (n : ℕ) (f : ℕ → ℕ) (k : ℕ) → k < n → get_or (values_to n f) k 0 ≡ f k
unfolding values_to
values_to-at zero f k below = absurd (omega arith)
values_to-at (suc n) f k below = elim (cases_lt k n) [
  | inl before ↦ get_or_append_left (values_to n f) (f n ∷ []) 0 k (omega (arith, length-values_to n f)) ∙ values_to-at n f k before
  | inr past ↦ (
      let same : k ≡ n = omega arith in
      let first : k - n ≡ 0 = omega arith in
      get_or-append_right (values_to n f) (f n ∷ []) n k 0 (length-values_to n f) past ∙ ap (λ (j : ℕ). get_or (f n ∷ []) j 0) first ∙ ap f (sym same))
]

root_low : (job : Job) (i : ℕ) → low_of (root_of job) i ≡ 0
unfolding low_of root_of
root_low job i = elim (cases_lt i 64) [
  | inl below ↦ get_or-replicate 64 i 0 0 below
  | inr past ↦ get_or_past {X = ℕ} (replicate 64 0) i 0 (omega (arith, length-replicate {A = ℕ} 64 0))
]

pub root_high : (job : Job) (i : ℕ) → i < suppliers job → high_of (root_of job) i ≡ segments job i
unfolding high_of root_of last_segment
root_high job i below =
    let few = (job_in_range job).few_suppliers in
    let here = lt-ltb i (suppliers job) below in
    values_to-at 64 (last_segment job) i (omega arith) ∙ (rw here refl)

root_high-past : (job : Job) (i : ℕ) → suppliers job ≤ i → high_of (root_of job) i ≡ 0
unfolding high_of root_of last_segment
root_high-past job i past = elim (cases_lt i 64) [
  | inl below ↦ (let here = le-ltb i (suppliers job) past in values_to-at 64 (last_segment job) i below ∙ (rw here refl))
  | inr out ↦ get_or_past (values_to 64 (last_segment job)) i 0 (omega (arith, length-values_to 64 (last_segment job)))
]

pub root_lows : (job : Job) → length (root_of job).lows ≡ 64
unfolding root_of
root_lows job = length-replicate {A = ℕ} 64 0

pub root_highs : (job : Job) → length (root_of job).highs ≡ 64
unfolding root_of
root_highs job = length-values_to 64 (last_segment job)

pub root_is : (job : Job) → IsRoot job (root_of job)
root_is job = record {
  of_job = record {
    low_places = root_lows job;
    high_places = root_highs job;
    ranges = λ i below. record {
      ordered = omega (arith, root_low job i);
      within = omega (arith, root_high job i below);
    };
    others = λ i past. record { low = root_low job i; high = root_high-past job i past };
  };
  whole = λ i below. record { from_zero = root_low job i; to_last = root_high job i below };
}

pub root_is_value : (job : Job) (area : IntervalBox) → IsRoot job area → area ≡ root_of job
root_is_value job area r = root_is_one job area (root_of job) r (root_is job)

-- no range of the root is wider than 16 segments
pub root_width : (job : Job) (i : ℕ) → high_of (root_of job) i - low_of (root_of job) i ≤ 16
root_width job i = elim (cases_lt i (suppliers job)) [
  | inl below ↦ omega (arith, root_high job i below, ((job_in_range job).each_supplier i below).few)
  | inr past ↦ omega (arith, root_high-past job i past)
]
