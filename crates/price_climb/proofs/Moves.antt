-- How the terms of a row's value change with one of its prices.
use Rattle.std.proofs.Common.{ℕ, zero, suc, ◌≡◌, ◌≢◌, ◌-◌, ◌*◌, ◌<◌, ◌≤◌, ℤ, pos, neg_ℤ, ◌+ℤ◌, ◌-ℤ◌, List, [], ◌∷◌, length, set, refl, ap, sym, ◌∙◌, arith, inl, inr}
use Rattle.std.specs.Int.{int_min}
use Rattle.std.proofs.lemmas.Bool.{cases_lt}
use Rattle.std.proofs.lemmas.Int.{ints}
use Rattle.std.proofs.lemmas.List.{get_or-set_same, get_or-set_other}
use Rattle.tqd_base.specs.Sum.{signed_sum_to}
use Rattle.tqd_instance.specs.declared.job.Job.{Job}
use Rattle.tqd_instance.specs.Job.{goods, need, most, low, high, price}
use Rattle.interval_box.specs.declared.boxes.IntervalBox.{IntervalBox}
use Rattle.bound_tree.specs.Prices.{Prices, price_at, place_of, segment_price}
use Rattle.bound_tree.specs.Value.{cap, charges_of, least_gain, least_times, segment_value, goods_value}
use Rattle.bound_tree.proofs.SegmentValues.{segment_value-none, segment_value-some, gains, gains-are}
use Rattle.bound_tree.proofs.Signed.{least_gain-is}
use Rattle.bound_tree.proofs.SignedSums.{signed_sum_to-same, signed_sum_to-suc}
use Rattle.price_climb.specs.PriceList.{with_price}
use Rattle.price_climb.specs.Columns.{segment_in}
use Rattle.price_climb.proofs.PriceLists.{with_price-good, with_price-place}
use Rattle.price_climb.proofs.Bounds.{segment_is, goods_value-is}

-- a sum in which one term is another
sum_moves : (n k : ℕ) (f g : ℕ → ℤ) → k < n → ((m : ℕ) → m ≢ k → f m ≡ g m) → signed_sum_to n g +ℤ f k ≡ signed_sum_to n f +ℤ g k
sum_moves zero k f g below others = absurd (omega arith)
sum_moves (suc n) k f g below others = elim (cases_lt k n) [
  | inl before ↦
      (let rest = sum_moves n k f g before others in
      let last = others n (λ e. omega arith) in
      omega (arith, ints, signed_sum_to-suc n f, signed_sum_to-suc n g))
  | inr here ↦
      (let at : k ≡ n = omega arith in
      let rest = signed_sum_to-same n f g (λ m inside. others m (λ e. omega arith)) in
      omega (arith, ints, signed_sum_to-suc n f, signed_sum_to-suc n g, ap f at, ap g at))
]

price_at-same : (prices : List ℤ) (k : ℕ) (p : ℤ) → k < length prices → price_at (set prices k p) k ≡ p
unfolding price_at
price_at-same prices k p below = get_or-set_same prices k p (pos 0) below

price_at-other : (prices : List ℤ) (k m : ℕ) (p : ℤ) → m ≢ k → price_at (set prices k p) m ≡ price_at prices m
unfolding price_at
price_at-other prices k m p other = get_or-set_other prices k m p (pos 0) other

-- the goods' terms, with another price of a good
goods_move : (job : Job) (prices : List ℤ) (k : ℕ) (p : ℤ) → length prices ≡ goods job → k < goods job
    → goods_value job (set prices k p) ≡ goods_value job prices -ℤ least_times (price_at prices k) (need job k) (most job k) +ℤ least_times p (need job k) (most job k)
goods_move job prices k p size below =
    let term = λ (p : ℤ) (k : ℕ). least_times p (need job k) (most job k) in
    let moves = sum_moves (goods job) k (λ k. term (price_at prices k) k) (λ m. term (price_at (set prices k p) m) m) below
    (λ m other. ap (λ z. term z m) (sym (price_at-other prices k m p other))) in
    let here : term (price_at (set prices k p) k) k ≡ term p k = ap (λ z. term z k) (price_at-same prices k p (omega arith)) in
    omega (arith, ints, goods_value-is job prices, goods_value-is job (set prices k p))

-- the gains in a segment, with another price of a good
gains_move : (job : Job) (prices : List ℤ) (h : ℤ) (i j k : ℕ) (p : ℤ) → length prices ≡ goods job → k < goods job
    → gains (charges_of job) job (set prices k p) h i j
    ≡ gains (charges_of job) job prices h i j -ℤ least_gain (cap job i k) (price job i j k) (price_at prices k) h +ℤ least_gain (cap job i k) (price job i j k) p h
gains_move job prices h i j k p size below =
    let term = λ (p : ℤ) (k : ℕ). least_gain (cap job i k) (price job i j k) p h in
    let moves = sum_moves (goods job) k (λ k. term (price_at prices k) k) (λ m. term (price_at (set prices k p) m) m) below
    (λ m other. ap (λ z. term z m) (sym (price_at-other prices k m p other))) in
    let here : term (price_at (set prices k p) k) k ≡ term p k = ap (λ z. term z k) (price_at-same prices k p (omega arith)) in
    omega (arith, ints, gains-are (charges_of job) job prices h i j, gains-are (charges_of job) job (set prices k p) h i j)

pub segment_price-is : (area : IntervalBox) (row : Prices) (i j : ℕ) → segment_price area row i j ≡ price_at row.places (place_of area i j)
unfolding segment_price
segment_price-is area row i j = refl

-- the value of a segment after a change of the price of a good, of which so many units save the amounts old and new
pub segment_moves : (job : Job) (area : IntervalBox) (row : Prices) (i j k units old new : ℕ) (p : ℤ) → length row.goods ≡ goods job → k < goods job → 1 ≤ j → units ≡ cap job i k
    → neg_ℤ (pos old) ≡ int_min (pos 0) (pos (price job i j k) -ℤ price_at row.goods k -ℤ segment_price area row i j)
    → neg_ℤ (pos new) ≡ int_min (pos 0) (pos (price job i j k) -ℤ p -ℤ segment_price area row i j)
    → (segment_in job area row i j +ℤ pos (units * old)) -ℤ pos (units * new) ≡ segment_in job area (with_price job row k p) i j
segment_moves job area row i j k units old new p size below some cap_is saved saves =
    let h = segment_price area row i j in
    let next : Prices = record { goods = set row.goods k p; places = row.places } in
    let is = segment_is job area row i j ∙ segment_value-some (charges_of job) job row.goods h i j some in
    let then = ap (λ r. segment_in job area r i j) (with_price-good job row k p size below) ∙ segment_is job area next i j
    ∙ segment_value-some (charges_of job) job (set row.goods k p) (segment_price area next i j) i j some in
    let same : segment_price area next i j ≡ h = segment_price-is area next i j ∙ sym (segment_price-is area row i j) in
    let times = ap (λ z. least_times z (low job i j) (high job i j)) same in
    let all = ap (λ z. gains (charges_of job) job (set row.goods k p) z i j) same ∙ gains_move job row.goods h i j k p size below in
    let before = least_gain-is (cap job i k) (price job i j k) old (price_at row.goods k) h saved in
    let after = least_gain-is (cap job i k) (price job i j k) new p h saves in
    let a : pos (units * old) ≡ pos (cap job i k * old) = ap (λ u. pos (u * old)) cap_is in
    let b : pos (units * new) ≡ pos (cap job i k * new) = ap (λ u. pos (u * new)) cap_is in
    omega (arith, ints)

-- the goods' terms after a change of the price of a good, and of another price
pub goods_moves : (job : Job) (row : Prices) (k : ℕ) (p : ℤ) → length row.goods ≡ goods job → k < goods job
    → goods_value job row.goods -ℤ least_times (price_at row.goods k) (need job k) (most job k) +ℤ least_times p (need job k) (most job k) ≡ goods_value job (with_price job row k p).goods
goods_moves job row k p size below = sym (ap (λ (r : Prices). goods_value job r.goods) (with_price-good job row k p size below) ∙ goods_move job row.goods k p size below)

pub goods_stay : (job : Job) (row : Prices) (n : ℕ) (p : ℤ) → length row.goods ≡ goods job → goods job ≤ n → goods_value job row.goods ≡ goods_value job (with_price job row n p).goods
goods_stay job row n p size from = sym (ap (λ (r : Prices). goods_value job r.goods) (with_price-place job row n p size from))

-- segment 0 has the same value in every row
pub segment_zero : (job : Job) (area : IntervalBox) (row : Prices) (i j : ℕ) → j ≡ 0 → segment_in job area row i j ≡ pos 0
segment_zero job area row i j none = segment_is job area row i j ∙ segment_value-none (charges_of job) job row.goods (segment_price area row i j) i j none

-- the value of a segment after a change of another segment's price
pub segment_stays : (job : Job) (area : IntervalBox) (row : Prices) (i j n : ℕ) (p : ℤ) → length row.goods ≡ goods job → goods job ≤ n → n - goods job ≢ place_of area i j
    → segment_in job area row i j ≡ segment_in job area (with_price job row n p) i j
segment_stays job area row i j n p size from other =
    let next : Prices = record { goods = row.goods; places = set row.places (n - goods job) p } in
    let same : segment_price area next i j ≡ segment_price area row i j =
    segment_price-is area next i j ∙ price_at-other row.places (n - goods job) (place_of area i j) p (λ e. other (sym e)) ∙ sym (segment_price-is area row i j) in
    sym (ap (λ r. segment_in job area r i j) (with_price-place job row n p size from) ∙ segment_is job area next i j
    ∙ ap (λ z. segment_value (charges_of job) job row.goods z i j) same ∙ sym (segment_is job area row i j))

-- the value of a segment after a change of its own price
pub segment_priced : (job : Job) (area : IntervalBox) (row : Prices) (i j n : ℕ) (p : ℤ) → length row.goods ≡ goods job → goods job ≤ n → n - goods job ≡ place_of area i j
    → n - goods job < length row.places → segment_value (charges_of job) job row.goods p i j ≡ segment_in job area (with_price job row n p) i j
segment_priced job area row i j n p size from here inside =
    let next : Prices = record { goods = row.goods; places = set row.places (n - goods job) p } in
    let same : segment_price area next i j ≡ p =
    segment_price-is area next i j ∙ ap (price_at (set row.places (n - goods job) p)) (sym here) ∙ price_at-same row.places (n - goods job) p inside in
    sym (ap (λ r. segment_in job area r i j) (with_price-place job row n p size from) ∙ segment_is job area next i j
    ∙ ap (λ z. segment_value (charges_of job) job row.goods z i j) same)

-- what the code has of a term of a good, of a saving and of a segment's value
pub times_are : (r z p : ℤ) (a b n m : ℕ) → z ≡ p → a ≡ n → b ≡ m → r ≡ least_times z a b → r ≡ least_times p n m
times_are r z p a b n m e f g is = rw (e, f, g) at is

pub saving_is : (s charge n : ℕ) (g h p q : ℤ) → charge ≡ n → g ≡ p → h ≡ q → neg_ℤ (pos s) ≡ int_min (pos 0) (pos charge -ℤ g -ℤ h)
    → neg_ℤ (pos s) ≡ int_min (pos 0) (pos n -ℤ p -ℤ q)
saving_is s charge n g h p q e a b is = rw (e, a, b) at is

pub priced_is : (job : Job) (i j : ℕ) (goods row_goods : List ℤ) (q p value : ℤ) → goods ≡ row_goods → q ≡ p
    → value ≡ segment_value (charges_of job) job goods (price_at (q ∷ []) 0) i j → value ≡ segment_value (charges_of job) job row_goods p i j
unfolding price_at
priced_is job i j goods row_goods q p value e a is = rw (e, a) at is
