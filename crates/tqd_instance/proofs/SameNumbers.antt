-- Two jobs are one exactly where all their numbers are the same.
use Rattle.std.proofs.Common.{ℕ, suc, zero, ◌≡◌, ◌<◌, ◌≤◌, List, length, slice_index, arith, ap, refl, sym, ◌∙◌, subst}
use Rattle.std.specs.Prelude.{◌↔◌}
use Rattle.std.proofs.lemmas.List.{ext_get_or}
use Rattle.tqd_instance.specs.declared.supplier.Segment.{Segment}
use Rattle.tqd_instance.specs.declared.supplier.Supplier.{Supplier}
use Rattle.tqd_instance.specs.declared.job.Job.{Job}
use Rattle.tqd_instance.specs.Offer.{no_segment, no_supplier}
use Rattle.tqd_instance.specs.Job.{goods, suppliers, need, most, supplier_at, segment_at, stock, segments, low, high, price, fee, least_winners, most_winners}
use Rattle.tqd_instance.specs.Same.{HasSameNumbers}
use Rattle.tqd_instance.proofs.Jobs.{supplier_is, segment_is, nothing_is}
use Rattle.tqd_instance.proofs.JobSame.{job_same}

abbrev segment_of : ℕ → ℕ → List ℕ → Segment
segment_of from to row = record { low = from; high = to; prices = row }

abbrev supplier_of : ℕ → List ℕ → List Segment → Supplier
supplier_of paid row parts = record { fee = paid; stocks = row; segments = parts }

same_segments : (s t : Segment) → s.low ≡ t.low → s.high ≡ t.high → s.prices ≡ t.prices → s ≡ t
same_segments s t lows highs rows =
    ap (λ n. segment_of n s.high s.prices) lows ∙ ap (λ n. segment_of t.low n s.prices) highs ∙ ap (λ (ns : List ℕ). segment_of t.low t.high ns) rows

same_suppliers : (s t : Supplier) → s.fee ≡ t.fee → s.stocks ≡ t.stocks → s.segments ≡ t.segments → s ≡ t
same_suppliers s t fees rows parts =
    ap (λ n. supplier_of n s.stocks s.segments) fees ∙ ap (λ (ns : List ℕ). supplier_of t.fee ns s.segments) rows
    ∙ ap (λ (ps : List Segment). supplier_of t.fee t.stocks ps) parts

-- two lists of as many numbers
same_at : (xs ys : List ℕ) (n : ℕ) → length xs ≡ n → length ys ≡ n → ((k : ℕ) → k < n → slice_index ys k ≡ slice_index xs k) → xs ≡ ys
same_at xs ys n of_xs of_ys same = ext_get_or 0 xs ys (of_xs ∙ sym of_ys) (λ k below. sym (same k (omega arith)))

-- segment 0 is the same in all jobs with as many goods
first_segment : (a b : Job) (i : ℕ) → HasSameNumbers a b → i < suppliers a → segment_at a i 0 ≡ segment_at b i 0
first_segment a b i same known =
    let x = nothing_is a i known in
    let y = nothing_is b i (omega (arith, same.as_many_suppliers)) in
    same_segments (segment_at a i 0) (segment_at b i 0) (x.low ∙ sym y.low) (x.high ∙ sym y.high)
    (same_at (segment_at a i 0).prices (segment_at b i 0).prices (goods a) x.width (y.width ∙ same.as_many_goods) (λ k below. y.prices k ∙ sym (x.prices k)))

later_segment : (a b : Job) (i j : ℕ) → HasSameNumbers a b → i < suppliers a → 1 ≤ j → j ≤ segments a i → segment_at a i j ≡ segment_at b i j
unfolding low high price
later_segment a b i j same known some within =
    let s = same.each_supplier i known in
    let e = s.each_segment j some within in
    let x = segment_is a i j known some within in
    let y = segment_is b i j (omega (arith, same.as_many_suppliers)) some (omega (arith, s.as_many_segments)) in
    same_segments (segment_at a i j) (segment_at b i j) (sym e.same_low) (sym e.same_high)
    (same_at (segment_at a i j).prices (segment_at b i j).prices (goods a) x.width (y.width ∙ same.as_many_goods) e.same_prices)

each_segment : (a b : Job) (i j : ℕ) → HasSameNumbers a b → i < suppliers a → j ≤ segments a i → segment_at a i j ≡ segment_at b i j
each_segment a b i zero same known within = first_segment a b i same known
each_segment a b i (suc j) same known within = later_segment a b i (suc j) same known (omega arith) within

all_segments : (a b : Job) (i : ℕ) → HasSameNumbers a b → i < suppliers a → (supplier_at a i).segments ≡ (supplier_at b i).segments
unfolding segments segment_at
all_segments a b i same known =
    let x = supplier_is a i known in
    let y = supplier_is b i (omega (arith, same.as_many_suppliers)) in
    let s = same.each_supplier i known in
    ext_get_or no_segment (supplier_at a i).segments (supplier_at b i).segments (omega (arith, x.some, y.some, s.as_many_segments))
    (λ j below. each_segment a b i j same known (omega (arith, x.some)))

each_supplier : (a b : Job) (i : ℕ) → HasSameNumbers a b → i < suppliers a → supplier_at a i ≡ supplier_at b i
unfolding fee stock
each_supplier a b i same known =
    let x = supplier_is a i known in
    let y = supplier_is b i (omega (arith, same.as_many_suppliers)) in
    let s = same.each_supplier i known in
    same_suppliers (supplier_at a i) (supplier_at b i) (sym s.same_fee)
    (same_at (supplier_at a i).stocks (supplier_at b i).stocks (goods a) x.width (y.width ∙ same.as_many_goods) s.same_stocks)
    (all_segments a b i same known)

one_job : (a b : Job) → HasSameNumbers a b → a ≡ b
unfolding goods suppliers supplier_at need most least_winners most_winners
one_job a b same = job_same a b
    (same_at a.needs b.needs (goods a) refl same.as_many_goods (λ k below. (same.each_good k below).same_need))
    (same_at a.mosts b.mosts (goods a) a.facts.width (b.facts.width ∙ same.as_many_goods) (λ k below. (same.each_good k below).same_most))
    (ext_get_or no_supplier a.suppliers b.suppliers (sym same.as_many_suppliers) (λ i below. each_supplier a b i same below))
    (sym same.same_least_winners)
    (sym same.same_most_winners)

own_numbers : (a : Job) → HasSameNumbers a a
own_numbers a = record {
  as_many_goods = refl;
  as_many_suppliers = refl;
  each_good = λ k below. record { same_need = refl; same_most = refl };
  each_supplier = λ i known. record {
    same_fee = refl;
    same_stocks = λ k below. refl;
    as_many_segments = refl;
    each_segment = λ j some within. record { same_low = refl; same_high = refl; same_prices = λ k below. refl };
  };
  same_least_winners = refl;
  same_most_winners = refl;
}

pub same_numbers : (a b : Job) → (a ≡ b) ↔ HasSameNumbers a b
same_numbers a b = (λ one. subst (λ (job : Job). HasSameNumbers a job) one (own_numbers a), one_job a b)
