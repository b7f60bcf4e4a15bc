-- The weights of the segments of a range are those of the columns.
use Rattle.std.proofs.Common.{ℕ, suc, zero, ◌≡◌, ◌≢◌, ◌+◌, ◌-◌, ◌<◌, ◌≤◌, ◌==◌, if◌then◌else◌, List, length, get_or, take, sum, refl, ap, sym, ◌∙◌, ⊎_elim, add-one, arith}
use Rattle.std.proofs.lemmas.Bool.{cases_eq, eq-eqb, ne_eqb}
use Rattle.std.proofs.lemmas.List.{take_all}
use Rattle.std.proofs.lemmas.List.Elements.{All-get_or}
use Rattle.tqd_base.specs.Sum.{sum_to}
use Rattle.tqd_instance.proofs.SumLemmas.{sum_to-zero, sum_to-suc, sum_to-same, sum_to-add}
use Rattle.tqd_instance.specs.declared.job.Job.{Job}
use Rattle.tqd_instance.specs.Job.{suppliers}
use Rattle.interval_box.specs.declared.boxes.IntervalBox.{IntervalBox}
use Rattle.interval_box.specs.Ranges.{low_of, high_of, IsBoxOf}
use Rattle.lagrangian.specs.declared.bundle.Bundle.{Bundle}
use Rattle.lagrangian.specs.declared.column.Column.{Column}
use Rattle.lagrangian.specs.declared.weights.TheConstants.{WHOLE}
use Rattle.lagrangian.specs.Columns.{Mixture, no_column, column_at, weight_at, weight_in, IsSegmentIn, IsWhole}
use Rattle.lagrangian.specs.Bundle.{mixture_at, AreWholeIn}
use Rattle.lagrangian.proofs.Weighing.{sum_more}

zeros : (n : ℕ) → sum_to n (λ k. 0) ≡ 0
zeros zero = sum_to-zero (λ k. 0)
zeros (suc n) = omega (arith, sum_to-suc n (λ k. 0), zeros n)

abbrev at_number : ℕ → ℕ → ℕ → ℕ
at_number s w j = if s == j then w else 0

hit : (s w j : ℕ) → s ≡ j → at_number s w j ≡ w
hit s w j e = rw (eq-eqb s j e)

miss : (s w j : ℕ) → s ≢ j → at_number s w j ≡ 0
miss s w j n = rw (ne_eqb s j n)

-- a number that is not among those from low on
misses : (n low s w : ℕ) → low + n ≤ s → sum_to n (λ k. at_number s w (low + k)) ≡ 0
misses zero low s w h = sum_to-zero (λ k. at_number s w (low + k))
misses (suc n) low s w h = omega (arith, sum_to-suc n (λ k. at_number s w (low + k)), misses n low s w (omega arith), miss s w (low + n) (λ z. omega arith))

-- a number that is among them counts once
hits : (n low s w : ℕ) → low ≤ s → s < low + n → sum_to n (λ k. at_number s w (low + k)) ≡ w
hits zero low s w from to = absurd (omega arith)
hits (suc n) low s w from to = ⊎_elim
    (λ (z : s ≡ low + n). omega (arith, sum_to-suc n (λ k. at_number s w (low + k)), misses n low s w (omega arith), hit s w (low + n) z))
    (λ (z : s ≢ low + n). omega (arith, sum_to-suc n (λ k. at_number s w (low + k)), hits n low s w from (omega arith), miss s w (low + n) z))
    (cases_eq s (low + n))

-- by the columns or by the segments, the sum is the same
by_columns : (n low c : ℕ) (s w : ℕ → ℕ) → ((at : ℕ) → at < c → low ≤ s at) → ((at : ℕ) → at < c → s at < low + n)
    → sum_to n (λ k. sum_to c (λ at. at_number (s at) (w at) (low + k))) ≡ sum_to c w
by_columns n low zero s w from to = sum_to-same n (λ k. sum_to 0 (λ at. at_number (s at) (w at) (low + k))) (λ k. 0) (λ k l. sum_to-zero (λ at. at_number (s at) (w at) (low + k)))
    ∙ zeros n ∙ sym (sum_to-zero w)
by_columns n low (suc c) s w from to =
    let rest = by_columns n low c s w (λ at l. from at (omega arith)) (λ at l. to at (omega arith)) in
    let both = sum_to-add n (λ k. sum_to c (λ at. at_number (s at) (w at) (low + k))) (λ k. at_number (s c) (w c) (low + k)) in
    let one = hits n low (s c) (w c) (from c (omega arith)) (to c (omega arith)) in
    let split = sum_to-same n (λ k. sum_to (suc c) (λ at. at_number (s at) (w at) (low + k)))
    (λ k. sum_to c (λ at. at_number (s at) (w at) (low + k)) + at_number (s c) (w c) (low + k))
    (λ k l. sum_to-suc c (λ at. at_number (s at) (w at) (low + k))) in
    omega (arith, sum_to-suc c w)

-- a sum of the first numbers of a list
sum_to_taken : (n : ℕ) (xs : List ℕ) → n ≤ length xs → sum_to n (λ k. get_or xs k 0) ≡ sum (take n xs)
sum_to_taken zero xs l = refl
sum_to_taken (suc n) xs l =
    let more = ap (λ m. sum (take m xs)) (add-one n) in
    omega (arith, sum_to-suc n (λ k. get_or xs k 0), sum_to_taken n xs (omega arith), sum_more xs n (omega arith))

-- the weights of the segments of a range, where all segments are in it, are a whole
pub segments_whole : (low high : ℕ) (m : Mixture) → low ≤ high → IsWhole low high m → sum_to (high + 1 - low) (λ n. weight_in m (low + n)) ≡ WHOLE
unfolding weight_in weight_at
segments_whole low high m order h =
    let s : ℕ → ℕ = λ at. (column_at m at).segment in
    let w : ℕ → ℕ = λ at. get_or m.weights at 0 in
    let inside : (at : ℕ) → at < 6 → IsSegmentIn low high (s at) =
    λ at l. All-get_or (λ (c : Column). IsSegmentIn low high c.segment) m.columns at no_column (omega (arith, h.places.columns)) h.inside in
    let sums = by_columns (high + 1 - low) low 6 s w (λ at l. (inside at l).from_low) (λ at l. omega (arith, (inside at l).to_high)) in
    let listed = sum_to_taken 6 m.weights (omega (arith, h.places.weights)) in
    let all : take 6 m.weights ≡ m.weights = take_all 6 m.weights (omega (arith, h.places.weights)) in
    sums ∙ (listed ∙ (ap sum all ∙ h.whole))

-- so they are of the suppliers of a bundle that is whole in a box
pub mixed_whole : (job : Job) (area : IntervalBox) (bundle : Bundle) → IsBoxOf job area → AreWholeIn job area bundle → (i : ℕ) → i < suppliers job
    → sum_to (high_of area i + 1 - low_of area i) (λ n. weight_in (mixture_at bundle i) (low_of area i + n)) ≡ WHOLE
mixed_whole job area bundle box whole i l = segments_whole (low_of area i) (high_of area i) (mixture_at bundle i) (box.ranges i l).ordered (whole i l)
