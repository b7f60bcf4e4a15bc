-- Where the places of a supplier stand, and what is read of a row that fits a box.
use Rattle.std.proofs.Common.{ℕ, zero, suc, ◌≡◌, ◌+◌, ◌*◌, ◌<◌, ◌≤◌, ℤ, List, length, subst, add-one, arith}
use Rattle.tqd_instance.specs.declared.job.Job.{Job}
use Rattle.tqd_instance.specs.Job.{suppliers, segments}
use Rattle.tqd_instance.proofs.Jobs.{job_in_range}
use Rattle.interval_box.specs.declared.boxes.IntervalBox.{IntervalBox}
use Rattle.interval_box.specs.Ranges.{low_of, high_of, Admits, IsBoxOf}
use Rattle.bound_tree.specs.Prices.{Prices, places_to, place_of, price_at, segment_price, Fits}
use Rattle.bound_tree.specs.Value.{charges_of, segment_value}
use Rattle.bound_tree.proofs.BoxPlaces.{count_few, places_to-zero, places_to-more, places_to-within, place_below}
use Rattle.price_climb.specs.PriceList.{price_count}
use Rattle.price_climb.specs.Columns.{segment_in}
use Rattle.price_climb.proofs.PriceLists.{price_count-is}

pub supplier_few : (job : Job) (i : ℕ) → i < suppliers job → i < 64
supplier_few job i below = omega (arith, (job_in_range job).few_suppliers)

places_few_to : (job : Job) (area : IntervalBox) (n : ℕ) → IsBoxOf job area → n ≤ suppliers job → places_to area n ≤ n * 16
places_few_to job area zero b most = omega (arith, places_to-zero area)
places_few_to job area (suc n) b most =
    let rest = places_few_to job area n b (omega arith) in
    let next : places_to area (n + 1) ≤ (n + 1) * 16 = omega (arith, places_to-more area n, count_few job area b n (omega arith)) in
    subst (λ m. places_to area m ≤ m * 16) (add-one n) next

-- at most 16 places for each of at most 64 suppliers
pub places_few : (job : Job) (area : IntervalBox) (i : ℕ) → IsBoxOf job area → i < suppliers job → places_to area i ≤ 1024
places_few job area i b below = omega (arith, places_few_to job area i b (omega arith), supplier_few job i below)

pub high_few : (job : Job) (area : IntervalBox) (i : ℕ) → IsBoxOf job area → i < suppliers job → (low_of area i ≤ high_of area i) × (high_of area i ≤ 16)
high_few job area i b below =
    let r = b.ranges i below in
    (r.ordered, omega (arith, r.within, ((job_in_range job).each_supplier i below).few))

-- the place of a segment is one of the row's
pub place_in_row : (job : Job) (area : IntervalBox) (row : Prices) (i j : ℕ) → Fits job area row → i < suppliers job → 1 ≤ j → Admits area i j → place_of area i j < length row.places
place_in_row job area row i j fits below some a = omega (arith, fits.places, place_below area i j some a, places_to-within area i (suppliers job) below)

pub segment_last : (job : Job) (area : IntervalBox) (i j : ℕ) → IsBoxOf job area → i < suppliers job → Admits area i j → j ≤ segments job i
segment_last job area i j b below a = omega (arith, a.to_high, (b.ranges i below).within)

-- the value of a segment, by what is read of the row
pub segment_read : (job : Job) (area : IntervalBox) (row : Prices) (i j at : ℕ) (goods places : List ℤ) (value : ℤ) → goods ≡ row.goods → places ≡ row.places → at ≡ place_of area i j
    → value ≡ segment_value (charges_of job) job goods (price_at places at) i j → value ≡ segment_in job area row i j
unfolding segment_in segment_price
segment_read job area row i j at goods places value g p a is = rw (g, p, a) at is

-- the ends of a range, as they are read
pub low_read : (job : Job) (area : IntervalBox) (i low : ℕ) → IsBoxOf job area → i < suppliers job → low ≡ low_of area i → low ≤ 16
low_read job area i low b below is = let range = high_few job area i b below in omega (arith, range.0, range.1)

pub high_read : (job : Job) (area : IntervalBox) (i high : ℕ) → IsBoxOf job area → i < suppliers job → high ≡ high_of area i → high ≤ 16
high_read job area i high b below is = omega (arith, (high_few job area i b below).1)

-- at most 1,000 prices of goods and 1,024 of segments
pub price_count_few : (job : Job) (area : IntervalBox) → IsBoxOf job area → price_count job area ≤ 2024
price_count_few job area b =
    omega (arith, price_count-is job area, (job_in_range job).few_goods, (job_in_range job).few_suppliers, places_few_to job area (suppliers job) b (omega arith))
