-- What a row with another price is, where that price is a good's and where it is a segment's.
use Rattle.std.proofs.Common.{ℕ, ◌≡◌, ◌+◌, ◌-◌, ◌<◌, ◌≤◌, ℤ, pos, List, ◌++◌, length, set, refl, ap, sym, subst, ◌∙◌, arith, inl, inr, length-set}
use Rattle.std.specs.List.{All}
use Rattle.std.proofs.lemmas.Bool.{cases_lt}
use Rattle.std.proofs.lemmas.Int.{to_z-of_z}
use Rattle.std.proofs.lemmas.List.{take_at, drop_at, set-append_left, set-append_right, get_or_append_left, get_or-append_right}
use Rattle.std.proofs.lemmas.List.Elements.{All-set}
use mir.Syntax.{w64}
use mir.Val.{to_z, of_z}
use Rattle.tqd_instance.specs.declared.job.Job.{Job}
use Rattle.tqd_instance.specs.Job.{goods, suppliers}
use Rattle.interval_box.specs.declared.boxes.IntervalBox.{IntervalBox}
use Rattle.bound_tree.specs.Prices.{Prices, places_to, price_at, IsPrice, Fits, row_of}
use Rattle.bound_tree.proofs.PriceReads.{price_in, price_fits}
use Rattle.price_climb.specs.PriceList.{price_count, price_of, with_price}

row_of-append : (job : Job) (xs ys : List ℤ) → length xs ≡ goods job → row_of job (xs ++ ys) ≡ record { goods = xs; places = ys }
unfolding row_of
row_of-append job xs ys size = rw (take_at xs ys (goods job) size, drop_at xs ys (goods job) size) refl

pub with_price-good : (job : Job) (row : Prices) (n : ℕ) (price : ℤ) → length row.goods ≡ goods job → n < goods job
    → with_price job row n price ≡ record { goods = set row.goods n price; places = row.places }
unfolding with_price
with_price-good job row n price size below =
    ap (row_of job) (set-append_left row.goods row.places n price (omega arith))
    ∙ row_of-append job (set row.goods n price) row.places (length-set row.goods n price ∙ size)

pub with_price-place : (job : Job) (row : Prices) (n : ℕ) (price : ℤ) → length row.goods ≡ goods job → goods job ≤ n
    → with_price job row n price ≡ record { goods = row.goods; places = set row.places (n - goods job) price }
unfolding with_price
with_price-place job row n price size from =
    ap (row_of job) (set-append_right row.goods row.places (goods job) n price size from)
    ∙ row_of-append job row.goods (set row.places (n - goods job) price) size

pub price_of-good : (job : Job) (row : Prices) (n : ℕ) → length row.goods ≡ goods job → n < goods job → price_of row n ≡ price_at row.goods n
unfolding price_of price_at
price_of-good job row n size below = get_or_append_left row.goods row.places (pos 0) n (omega arith)

pub price_of-place : (job : Job) (row : Prices) (n : ℕ) → length row.goods ≡ goods job → goods job ≤ n → price_of row n ≡ price_at row.places (n - goods job)
unfolding price_of price_at
price_of-place job row n size from = get_or-append_right row.goods row.places (goods job) n (pos 0) size from

pub price_count-is : (job : Job) (area : IntervalBox) → price_count job area ≡ goods job + places_to area (suppliers job)
unfolding price_count
price_count-is job area = refl

-- the place of a segment's price is one of the box
pub place_within : (job : Job) (area : IntervalBox) (row : Prices) (n : ℕ) → Fits job area row → n < price_count job area → goods job ≤ n → n - goods job < length row.places
place_within job area row n fits below from = omega (arith, fits.places, price_count-is job area)

-- the row with another price fits the box too
pub with_price_fits : (job : Job) (area : IntervalBox) (row : Prices) (n : ℕ) (price : ℤ) → Fits job area row → IsPrice price → Fits job area (with_price job row n price)
with_price_fits job area row n price fits is = elim (cases_lt n (goods job)) [
  | inl below ↦
      subst (Fits job area) (sym (with_price-good job row n price fits.goods below)) (record {
        goods = length-set row.goods n price ∙ fits.goods;
        places = fits.places;
        good_prices = All-set IsPrice row.goods n price is fits.good_prices;
        place_prices = fits.place_prices;
      })
  | inr from ↦
      subst (Fits job area) (sym (with_price-place job row n price fits.goods from)) (record {
        goods = fits.goods;
        places = length-set row.places (n - goods job) price ∙ fits.places;
        good_prices = fits.good_prices;
        place_prices = All-set IsPrice row.places (n - goods job) price is fits.place_prices;
      })
]

-- a price that is read of a list
pub read_back : (z : ℤ) (prices : List ℤ) (at : ℕ) → All IsPrice prices → z ≡ price_at prices at → to_z w64 (of_z w64 z) ≡ price_at prices at
read_back z prices at all is = to_z-of_z w64 z (price_fits z (subst IsPrice (sym is) (price_in prices at all))) ∙ is

pub read_in : (z : ℤ) (prices : List ℤ) (at : ℕ) → All IsPrice prices → z ≡ price_at prices at → IsPrice (to_z w64 (of_z w64 z))
read_in z prices at all is = subst IsPrice (sym (read_back z prices at all is)) (price_in prices at all)
