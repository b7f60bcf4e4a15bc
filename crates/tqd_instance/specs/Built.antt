-- The job that well-formed parts describe, or the first test that they fail.
use Rattle.std.specs.Prelude.{ℕ, suc, ◌≡◌, ◌+◌, ◌-◌, ◌*◌, ◌/◌, ◌<◌, ◌≤◌, ◌&&◌, Bool, true, false, zero, nat_le, if◌then◌else◌, List, [], ◌∷◌, ◌++◌, length, map, filter, find, sum, replicate, slice_index, min, max, ◌==◌, Contains, Option, Some, None, option_map, option_and_then, unwrap_or, slice_index_or, Any, IsSomeAnd}
use Rattle.std.specs.List.{list_any}
use Rattle.tqd_base.specs.declared.limits.TheConstants.{QTY_MAX, GOODS_MAX}
use Rattle.tqd_instance.specs.declared.supplier.Segment.{Segment}
use Rattle.tqd_instance.specs.declared.supplier.Supplier.{Supplier}
use Rattle.tqd_instance.specs.declared.job.Job.{Job}
use Rattle.tqd_instance.specs.declared.parts.Over.{Over}
use Rattle.tqd_instance.specs.declared.parts.Over.TheVariants.{Percent, Any as AnyAmount}
use Rattle.tqd_instance.specs.declared.parts.OverRow.{OverRow}
use Rattle.tqd_instance.specs.declared.parts.JobFault.{JobFault}
use Rattle.tqd_instance.specs.declared.parts.JobFault.TheVariants.{TooManyGoods, MissingPrice, ShareOrder, WinnerOrder}
use Rattle.tqd_instance.specs.PartsData.{PartsData}
use Rattle.tqd_base.specs.Sum.{sum_to}
use Rattle.tqd_instance.specs.Offer.{no_supplier}
use Rattle.tqd_instance.specs.Parts.{WHOLE, AreFroms, froms_stated}

-- f 0, f 1, .. f (n - 1)
unfoldable pub table : {A : Type 0} → ℕ → (ℕ → A) → List A
table zero f = []
table (suc n) f = table n f ++ f n ∷ []

-- whether a supplier offers a good, in any interval
unfoldable pub offers : PartsData → ℕ → ℕ → Bool
offers parts i k = list_any (λ r. r.supplier == i && r.good == k) parts.prices

-- the price of a good at a supplier in the interval that begins at from, where it is stated
unfoldable pub price_stated : PartsData → ℕ → ℕ → ℕ → Option ℕ
price_stated parts i from k = option_map (λ r. r.price) (find (λ r. r.supplier == i && r.from == from && r.good == k) parts.prices)

-- a good that a supplier does not offer has no stock there; else the stated number, else the greatest quantity
unfoldable pub stock_of : PartsData → ℕ → ℕ → ℕ
stock_of parts i k = if offers parts i k
    then unwrap_or (option_map (λ r. r.units) (find (λ r. r.supplier == i && r.good == k) parts.stocks)) QTY_MAX
    else 0

-- whether an over row is a good's own, or holds for each good without one
abbrev pub is_own : ℕ → OverRow → Bool
is_own k r = unwrap_or (option_map (λ good. good == k) r.good) false

abbrev pub is_general : OverRow → Bool
is_general r = unwrap_or (option_map (λ _. false) r.good) true

-- the term of the first row where it is there, else that of the second, or none
abbrev pub first_term : Option OverRow → Option OverRow → Option Over
first_term (Some r) _ = Some r.over
first_term None other = option_map (λ r. r.over) other

-- the over term of a good: that of its own row, else that of the row for all goods, or none
unfoldable pub over_of : PartsData → ℕ → Option Over
over_of parts k = first_term (find (is_own k) parts.overs) (find is_general parts.overs)

-- the most that may be bought of a good with such a need, which so many units are in stock of
abbrev pub most_by : Option Over → ℕ → ℕ → ℕ
most_by None need in_stock = need
most_by (Some (Percent p)) need in_stock = need + need * p / 100
most_by (Some AnyAmount) need in_stock = max need in_stock

unfoldable pub most_of : PartsData → ℕ → ℕ
most_of parts k = most_by (over_of parts k) (slice_index parts.needs k) (sum_to parts.suppliers (λ i. stock_of parts i k))

-- an interval of totals: where its prices begin, and the totals that are left of it
pub record Interval : Type 0 where
  pub from : ℕ
  pub low : ℕ
  pub high : ℕ

-- one below the next beginning; the last interval ends at the greatest quantity
abbrev pub end_before : List ℕ → ℕ
end_before [] = QTY_MAX
end_before (next ∷ rest) = next - 1

-- the intervals that begin at these numbers
unfoldable pub intervals : List ℕ → List Interval
intervals [] = []
intervals (from ∷ rest) = record { from = from; low = from; high = end_before rest } ∷ intervals rest

-- the totals that a supplier's share and total terms leave
pub record Limits : Type 0 where
  pub least : ℕ
  pub most : ℕ

-- so many thousandths of the sum of the needs, rounded up for a low and down for a high
unfoldable pub limits_of : PartsData → ℕ → Limits
limits_of parts i =
    let share = find (λ r. r.supplier == i) parts.shares in
    let most_units = unwrap_or (option_map (λ r. r.units) (find (λ r. r.supplier == i) parts.totals)) QTY_MAX in
    record {
      least = (unwrap_or (option_map (λ r. r.low) share) 0 * sum parts.needs + (WHOLE - 1)) / WHOLE;
      most = min most_units (unwrap_or (option_map (λ high. high * sum parts.needs / WHOLE) (option_and_then (λ r. r.high) share)) QTY_MAX);
    }

-- the interval within those limits
abbrev pub cut : Limits → Interval → Interval
cut limits interval = record interval { low = max limits.least interval.low; high = min limits.most interval.high }

-- an interval that still has a total
abbrev pub has_total : Interval → Bool
has_total interval = nat_le interval.low interval.high

-- a segment with the prices of the interval that it is cut from; a good that is not offered has the price 0
unfoldable pub segment_of : PartsData → ℕ → Interval → Segment
segment_of parts i interval = record {
  low = interval.low;
  high = interval.high;
  prices = table (length parts.needs) (λ k. unwrap_or (price_stated parts i interval.from k) 0);
}

-- segment 0, in which nothing is bought
unfoldable pub nothing_segment : PartsData → Segment
nothing_segment parts = record { low = 0; high = 0; prices = replicate (length parts.needs) 0 }

-- segment 0, then the intervals that begin at these numbers, cut to the limits, without those that become empty
unfoldable pub segments_of : PartsData → ℕ → List ℕ → List Segment
segments_of parts i froms = nothing_segment parts ∷ map (segment_of parts i) (filter has_total (map (cut (limits_of parts i)) (intervals froms)))

-- a supplier of the job, whose intervals begin at the numbers of its offers
pub record IsSupplierOf (parts : PartsData) (i : ℕ) (supplier : Supplier) : Type 0 where
  pub fee : supplier.fee ≡ unwrap_or (option_map (λ r. r.fee) (find (λ r. r.supplier == i) parts.fees)) 0
  pub stocks : supplier.stocks ≡ table (length parts.needs) (stock_of parts i)
  pub segments : (froms : List ℕ) → AreFroms parts i froms → supplier.segments ≡ segments_of parts i froms

-- the job of the parts
pub record IsJobOf (parts : PartsData) (job : Job) : Type 0 where
  pub needs : job.needs ≡ parts.needs
  pub mosts : job.mosts ≡ table (length parts.needs) (most_of parts)
  pub count : length job.suppliers ≡ parts.suppliers
  pub suppliers : (i : ℕ) → i < parts.suppliers → IsSupplierOf parts i (slice_index_or job.suppliers i no_supplier)
  pub least_winners : job.least_winners ≡ parts.least_winners
  pub most_winners : job.most_winners ≡ parts.most_winners

-- a supplier has a price of a good in some interval, and none in the interval that begins at from
pub record LacksPrice (parts : PartsData) (i from k : ℕ) : Type 0 where
  pub interval : Contains (froms_stated parts i) from
  pub offered : offers parts i k ≡ true
  pub missing : price_stated parts i from k ≡ None

-- the first such supplier, then its first such interval, then the first such good
pub record IsFirstLack (parts : PartsData) (i from k : ℕ) : Type 0 where
  pub lacks : LacksPrice parts i from k
  pub first_supplier : (j other good : ℕ) → j < i → LacksPrice parts j other good → ⊥
  pub first_interval : (other good : ℕ) → other < from → LacksPrice parts i other good → ⊥
  pub first_good : (good : ℕ) → good < k → LacksPrice parts i from good → ⊥

-- the low of a supplier's share is above its high
abbrev pub HasBadShare : PartsData → ℕ → Type 0
HasBadShare parts i = Any (λ r. (r.supplier ≡ i) × IsSomeAnd r.high (λ high. high < r.low)) parts.shares

pub record IsFirstBadShare (parts : PartsData) (i : ℕ) : Type 0 where
  pub bad : HasBadShare parts i
  pub first : (j : ℕ) → j < i → HasBadShare parts j → ⊥

abbrev pub FewGoods : PartsData → Type 0
FewGoods parts = length parts.needs ≤ GOODS_MAX

abbrev pub LacksNone : PartsData → Type 0
LacksNone parts = (i from k : ℕ) → LacksPrice parts i from k → ⊥

abbrev pub GoodShares : PartsData → Type 0
GoodShares parts = (i : ℕ) → HasBadShare parts i → ⊥

-- the tests in their order: the number of goods, the prices, the shares, the winner limits. Each refusal comes
-- exactly where its test is the first that fails
abbrev pub Refuses : PartsData → JobFault → Type 0
Refuses parts (TooManyGoods n) = (GOODS_MAX < n) × (n ≡ length parts.needs)
Refuses parts (MissingPrice i from k) = FewGoods parts × IsFirstLack parts i from k
Refuses parts (ShareOrder i) = FewGoods parts × LacksNone parts × IsFirstBadShare parts i
Refuses parts WinnerOrder = FewGoods parts × LacksNone parts × GoodShares parts × (parts.most_winners < parts.least_winners)

-- every test passes
pub record Passes (parts : PartsData) : Type 0 where
  pub few_goods : FewGoods parts
  pub prices : LacksNone parts
  pub shares : GoodShares parts
  pub winners : parts.least_winners ≤ parts.most_winners
