-- What holds of the parts that the generator makes.
use Rattle.std.proofs.Common.{ℕ, ◌≡◌, ◌*◌, ◌/◌, ◌<◌, ◌≤◌, [], length, All, Contains, arith, refl, sym, subst}
use Rattle.std.specs.List.{AllPairs}
use Rattle.std.proofs.lemmas.List.Elements.{All-from_get_or}
use Rattle.std.proofs.Math.Nat.{div-le_self, div-mul-le_self}
use Rattle.std.proofs.lemmas.Nat.{le-div}
use Rattle.tqd_base.specs.Sum.{sum_to}
use Rattle.tqd_instance.specs.declared.parts.PriceRow.{PriceRow}
use Rattle.tqd_instance.specs.PartsData.{PartsData}
use Rattle.tqd_instance.specs.Built.{table}
use Rattle.tqd_instance.proofs.SumLemmas.{sum_to-bound}
use Rattle.tqd_instance.proofs.Tables.{length-table, get_or-table}
use Rattle.order_gen.specs.declared.offers.Starts.{Starts}
use Rattle.order_gen.specs.Draws.{draw}
use Rattle.order_gen.specs.GenParts.{drawn_need, starts_by, parts_from}
use Rattle.order_gen.proofs.OfferList.{IsStart, AreRising, IsOffered, HasOffer, Differ, offered, offers_have, offers_differ}

-- a need that is drawn
pub record IsDrawn (need : ℕ) : Type 0 where
  pub some : 1 ≤ need
  pub few : need ≤ 1000

pub record IsMade (starts : Starts) (parts : PartsData) : Type 0 where
  pub some_suppliers : 1 ≤ parts.suppliers
  pub few_suppliers : parts.suppliers ≤ 64
  pub some_goods : 1 ≤ length parts.needs
  pub few_goods : length parts.needs ≤ 1000
  pub needs : All IsDrawn parts.needs
  pub rising : AreRising starts
  pub third : starts.third ≤ 1000003
  pub offered : (r : PriceRow) → Contains parts.prices r → IsOffered starts parts.suppliers (length parts.needs) r
  pub offers : (i k from : ℕ) → i < parts.suppliers → k < length parts.needs → IsStart starts from → HasOffer parts.prices i k from
  pub differ : AllPairs Differ parts.prices
  pub no_stocks : parts.stocks ≡ []
  pub no_totals : parts.totals ≡ []
  pub no_shares : parts.shares ≡ []
  pub no_fees : parts.fees ≡ []
  pub no_overs : parts.overs ≡ []
  pub least_winners : parts.least_winners ≡ 0
  pub most_winners : parts.most_winners ≡ 64

need_drawn : (s k : ℕ) → IsDrawn (drawn_need s k)
unfolding drawn_need draw
need_drawn s k = record { some = omega arith; few = omega arith }

needs_drawn : (s goods : ℕ) → All IsDrawn (table goods (drawn_need s))
needs_drawn s goods =
    All-from_get_or IsDrawn (table goods (drawn_need s)) 0 (λ k below.
    let in_goods : k < goods = omega (arith, length-table goods (drawn_need s)) in
    subst IsDrawn (sym (get_or-table goods (drawn_need s) k 0 in_goods)) (need_drawn s k))

half_below : (sum n : ℕ) → 1 ≤ n → sum / (2 * n) ≤ sum / n
half_below sum n some =
    let whole = div-mul-le_self sum (2 * n) in
    let half : sum / (2 * n) * n ≤ sum = doubled (sum / (2 * n)) n sum whole in
    le-div (sum / (2 * n)) sum n (omega arith) half
  where
    doubled : (q n sum : ℕ) → q * (2 * n) ≤ sum → q * n ≤ sum
    doubled q n sum le = omega arith

starts_rise : (sum suppliers : ℕ) → 1 ≤ suppliers → AreRising (starts_by sum suppliers)
unfolding starts_by
starts_rise sum suppliers some = record { after_one = omega arith; after_second = omega (arith, half_below sum suppliers some) }

starts_third : (sum suppliers : ℕ) → 1 ≤ suppliers → sum ≤ 1000000 → (starts_by sum suppliers).third ≤ 1000003
unfolding starts_by
starts_third sum suppliers some few = omega (arith, div-le_self sum suppliers)

sum_few : (s goods : ℕ) → goods ≤ 1000 → sum_to goods (drawn_need s) ≤ 1000000
sum_few s goods few = omega (arith, sum_to-bound goods 1000 (drawn_need s) (λ k below. (need_drawn s k).few))

abbrev pub starts_of : ℕ → ℕ → ℕ → Starts
starts_of s goods suppliers = starts_by (sum_to goods (drawn_need s)) suppliers

pub parts_made : (s goods suppliers : ℕ) → 1 ≤ goods → goods ≤ 1000 → 1 ≤ suppliers → suppliers ≤ 64
    → IsMade (starts_of s goods suppliers) (parts_from s goods suppliers)
unfolding parts_from
parts_made s goods suppliers some_goods few_goods some_suppliers few_suppliers =
    let size = length-table goods (drawn_need s) in
    let starts = starts_of s goods suppliers in
    let rise = starts_rise (sum_to goods (drawn_need s)) suppliers some_suppliers in
    record {
      some_suppliers = some_suppliers;
      few_suppliers = few_suppliers;
      some_goods = omega arith;
      few_goods = omega arith;
      needs = needs_drawn s goods;
      rising = rise;
      third = starts_third (sum_to goods (drawn_need s)) suppliers some_suppliers (sum_few s goods few_goods);
      offered = λ r has. subst (λ (n : ℕ). IsOffered starts suppliers n r) (sym size) (offered s starts goods suppliers r has);
      offers = λ i k from i_in k_in start. offers_have s starts goods suppliers i k from i_in (omega arith) start;
      differ = offers_differ s starts goods suppliers rise;
      no_stocks = refl;
      no_totals = refl;
      no_shares = refl;
      no_fees = refl;
      no_overs = refl;
      least_winners = refl;
      most_winners = refl;
    }
