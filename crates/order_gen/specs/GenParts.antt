-- The job that the generator makes: the needs and offers that it draws, and no terms. A rule of this program.
use Rattle.std.specs.Prelude.{ℕ, suc, zero, ◌+◌, ◌-◌, ◌*◌, ◌/◌, List, [], ◌∷◌, ◌++◌}
use Rattle.tqd_base.specs.Sum.{sum_to}
use Rattle.tqd_instance.specs.declared.parts.PriceRow.{PriceRow}
use Rattle.tqd_instance.specs.declared.job.Job.{Job}
use Rattle.tqd_instance.specs.PartsData.{PartsData}
use Rattle.tqd_instance.specs.Built.{table, IsJobOf}
use Rattle.tqd_instance.specs.Purchase.{Purchase}
use Rattle.tqd_instance.specs.Feasible.{Feasible}
use Rattle.order_gen.specs.declared.offers.Starts.{Starts}
use Rattle.order_gen.specs.declared.offers.Discounts.{Discounts}
use Rattle.order_gen.specs.Draws.{first_state, state_after, draw}

-- the lists f 0, f 1, .. f (n - 1), one after the other
unfoldable pub joined : {A : Type 0} → ℕ → (ℕ → List A) → List A
joined zero f = []
joined (suc n) f = joined n f ++ f n

-- what is drawn first, from the first state: the need of each good, from 1 to 1,000
unfoldable pub drawn_need : ℕ → ℕ → ℕ
drawn_need state k = 1 + draw state k 1000

-- what is drawn for a supplier, from the state before it: how many hundredths the second and the third interval are
-- cheaper than the first, and then the base price of each good, a hundredth of its price in the first interval
unfoldable pub discounts_from : ℕ → Discounts
discounts_from state =
    let second = 1 + draw state 0 5 in
    record { second = second; third = second + 1 + draw state 1 5 }

unfoldable pub base_price : ℕ → ℕ → ℕ
base_price state k = 10000 + draw state (2 + k) 10000

-- where the second and the third interval of each supplier begin, by the sum of the needs and the number of suppliers
unfoldable pub starts_by : ℕ → ℕ → Starts
starts_by sum suppliers = record { second = sum / (2 * suppliers) + 2; third = sum / suppliers + 3 }

abbrev pub offer : ℕ → ℕ → ℕ → ℕ → PriceRow
offer i from k price = record { supplier = i; from = from; good = k; price = price }

-- the offers of good k by supplier i, in its three intervals
unfoldable pub good_offers : ℕ → Starts → Discounts → ℕ → ℕ → List PriceRow
good_offers i starts discounts k base =
    offer i 1 k (100 * base)
    ∷ offer i starts.second k (100 * base - base * discounts.second)
    ∷ offer i starts.third k (100 * base - base * discounts.third)
    ∷ []

-- the offers of a supplier, good by good
unfoldable pub supplier_offers : ℕ → ℕ → Starts → ℕ → List PriceRow
supplier_offers state i starts goods =
    joined goods (λ k. good_offers i starts (discounts_from state) k (base_price state k))

-- the draws before those for a supplier: one for each need, and two and one for each good for each supplier before it
abbrev pub draws_before : ℕ → ℕ → ℕ
draws_before goods i = goods + i * (2 + goods)

-- the offers of all suppliers, one after the other
unfoldable pub all_offers : ℕ → Starts → ℕ → ℕ → List PriceRow
all_offers state starts goods suppliers =
    joined suppliers (λ i. supplier_offers (state_after state (draws_before goods i)) i starts goods)

-- the parts of the job, from the first state
unfoldable pub parts_from : ℕ → ℕ → ℕ → PartsData
parts_from state goods suppliers =
    let sum = sum_to goods (drawn_need state) in
    record {
      suppliers = suppliers;
      needs = table goods (drawn_need state);
      prices = all_offers state (starts_by sum suppliers) goods suppliers;
      stocks = [];
      totals = [];
      shares = [];
      fees = [];
      overs = [];
      least_winners = 0;
      most_winners = 64;
    }

-- the job of a seed, a number of goods and a number of suppliers
abbrev pub IsGenJob : ℕ → ℕ → ℕ → Job → Type 0
IsGenJob seed goods suppliers job = IsJobOf (parts_from (first_state seed) goods suppliers) job

-- some purchase is feasible
abbrev pub HasPurchase : Job → Type 0
HasPurchase job = (x : Purchase) × Feasible job x
