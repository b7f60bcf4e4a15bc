-- What a lack of a price is, by the flags and the prices that were read.
use Rattle.std.proofs.Common.{ℕ, ◌≡◌, ◌<◌, ◌≤◌, ◌==◌, Bool, true, false, List, length, get_or, map, Option, None, Contains, All, arith, ap, ◌∙◌, sym, subst, inl, inr}
use Rattle.std.specs.List.{Any}
use Rattle.std.proofs.lemmas.Bool.{cases_lt}
use Rattle.std.proofs.lemmas.Bool.Decides.{nat_tests}
use Rattle.std.proofs.lemmas.Grind.{common_steps}
use Rattle.std.proofs.lemmas.List.Elements.{filter_passes, All-filter}
use Rattle.std.proofs.lemmas.List.Folds.{Any-from_list_any}
use Rattle.std.proofs.lemmas.List.Kept.{AllPairs-from_increasing}
use Rattle.tqd_instance.specs.declared.parts.PriceRow.{PriceRow}
use Rattle.tqd_base.specs.declared.memory.Stop.{Stop}
use Rattle.tqd_base.specs.declared.memory.Stop.TheVariants.{Refused, Memory as NoMemory}
use Rattle.tqd_instance.specs.declared.parts.JobFault.{JobFault}
use Rattle.tqd_instance.specs.declared.parts.JobFault.TheVariants.{TooManyGoods, MissingPrice, ShareOrder, WinnerOrder}
use Rattle.tqd_instance.specs.Refused.{IfRefused, IsLackOf, IsFirstLackFault}
use Rattle.tqd_instance.specs.PartsData.{PartsData}
use Rattle.tqd_instance.specs.Parts.{IsPriceRow, IsWellFormed, AreFroms, froms_stated}
use Rattle.tqd_instance.specs.Built.{offers, price_stated, LacksPrice, LacksNone, IsFirstLack}
use Rattle.tqd_instance.specs.Rows.{rows_of, offers_in, AreValues, IsMissing, IsFirstMissing, HasNoMissing, LacksNoneAt, IsFirstLackAt, LacksNoneOf, IsFirstLackOf}
use Rattle.tqd_instance.proofs.Rows.{rows_are, offers_are}

-- a good that is offered is a good
good_of_row : (goods k : ℕ) (rows : List PriceRow) → ((j : ℕ) (d : PriceRow) → j < length rows → (get_or rows j d).good < goods) → Any (λ (r : PriceRow). (r.good == k) ≡ true) rows → k < goods
good_of_row goods k rows within some =
    let row : (get_or rows some.0 some.1).good < goods = within some.0 some.1 some.2 in
    let same : get_or rows some.0 some.1 ≡ some.1 = some.3 in
    let here : some.1.good < goods = rw same at row in
    grind (arith, nat_tests, here, some.4)

pub offered_in_range : (parts : PartsData) (i k : ℕ) → IsWellFormed parts → offers parts i k ≡ true → k < length parts.needs
unfolding offers_in
offered_in_range parts i k formed offered =
    good_of_row (length parts.needs) k (rows_of parts i) (λ j d below. (rows_are parts i formed j d below).good)
    (Any-from_list_any (λ (r : PriceRow). r.good == k) (rows_of parts i) (offers_are parts i k ∙ offered))

missing_from_lack : (parts : PartsData) (i from k : ℕ) (flags : List Bool) (prices : List (Option ℕ)) → IsWellFormed parts
    → AreValues (length parts.needs) false (offers parts i) flags → AreValues (length parts.needs) None (price_stated parts i from) prices
    → LacksPrice parts i from k → (k < length flags) × IsMissing flags prices k
missing_from_lack parts i from k flags prices formed offered stated lack =
    let within = offered_in_range parts i k formed lack.offered in (
      omega (arith, offered.width),
      record {
        offered_here = offered.values k within ∙ lack.offered;
        no_price = stated.values k within ∙ lack.missing;
      },
    )

pub lacks_none_at : (parts : PartsData) (i from : ℕ) (flags : List Bool) (prices : List (Option ℕ)) → IsWellFormed parts
    → AreValues (length parts.needs) false (offers parts i) flags → AreValues (length parts.needs) None (price_stated parts i from) prices
    → HasNoMissing flags prices → LacksNoneAt parts i from
lacks_none_at parts i from flags prices formed offered stated none = λ k lack.
    let missing = missing_from_lack parts i from k flags prices formed offered stated lack in
    none k missing.0 missing.1

pub first_lack_at : (parts : PartsData) (i from k : ℕ) (flags : List Bool) (prices : List (Option ℕ)) → IsWellFormed parts
    → AreValues (length parts.needs) false (offers parts i) flags → AreValues (length parts.needs) None (price_stated parts i from) prices
    → Contains (froms_stated parts i) from → IsFirstMissing flags prices k → IsFirstLackAt parts i from k
first_lack_at parts i from k flags prices formed offered stated interval first =
    let within : k < length parts.needs = omega (arith, first.in_range, offered.width) in
    record {
      lacks = record {
        interval = interval;
        offered = sym (offered.values k within) ∙ first.missing.offered_here;
        missing = sym (stated.values k within) ∙ first.missing.no_price;
      };
      first_good = λ good less lack. first.first good less (missing_from_lack parts i from good flags prices formed offered stated lack).1;
    }

-- an interval that begins below another stands before it
before_from : (froms : List ℕ) (at k : ℕ) → ((a b : ℕ) (d : ℕ) → a < b → b < length froms → get_or froms a d < get_or froms b d)
    → at < length froms → k < length froms → get_or froms k 0 < get_or froms at 0 → k < at
before_from froms at k rising at_in k_in less = elim (cases_lt k at) [
  | inl before ↦ before
  | inr after ↦ after_not froms at k rising at_in k_in less after
]
  where
    after_not : (froms : List ℕ) (at k : ℕ) → ((a b : ℕ) (d : ℕ) → a < b → b < length froms → get_or froms a d < get_or froms b d)
        → at < length froms → k < length froms → get_or froms k 0 < get_or froms at 0 → at ≤ k → k < at
    after_not froms at k rising at_in k_in less after = elim (cases_lt at k) [
      | inl above ↦ omega (arith, rising at k 0 above k_in)
      | inr not_above ↦ (let same : at ≡ k = omega arith in omega (arith, ap (λ n. get_or froms n 0) same))
    ]

-- no lack in the intervals so far, and the first of this one
pub first_lack_of : (parts : PartsData) (i at k : ℕ) (froms : List ℕ) → AreFroms parts i froms → at < length froms
    → ((a good : ℕ) → a < at → LacksPrice parts i (get_or froms a 0) good → ⊥) → IsFirstLackAt parts i (get_or froms at 0) k
    → IsFirstLackOf parts i (get_or froms at 0) k
first_lack_of parts i at k froms are at_in before first = record {
  lacks = first.lacks;
  first_good = first.first_good;
  first_interval = λ other good less lack.
      let has = (are.stated other).1 lack.interval in
      let place : get_or froms has.0 0 ≡ other = get_or_of froms has.0 other has.1 has.2 in
      let earlier : has.0 < at = before_from froms at has.0 (AllPairs-from_increasing froms are.rising) at_in has.1 (omega arith) in
      before has.0 good earlier (rw place lack);
}
  where
    get_or_of : (froms : List ℕ) (k from : ℕ) → k < length froms → get_or froms k from ≡ from → get_or froms k 0 ≡ from
    get_or_of froms k from below is = grind (arith, common_steps)

pub lacks_none_of : (parts : PartsData) (i : ℕ) (froms : List ℕ) → AreFroms parts i froms
    → ((a good : ℕ) → a < length froms → LacksPrice parts i (get_or froms a 0) good → ⊥) → LacksNoneOf parts i
lacks_none_of parts i froms are none = λ from k lack.
    let has = (are.stated from).1 lack.interval in
    let place : get_or froms has.0 0 ≡ from = get_or_of froms has.0 from has.1 has.2 in
    none has.0 k has.1 (rw place lack)
  where
    get_or_of : (froms : List ℕ) (k from : ℕ) → k < length froms → get_or froms k from ≡ from → get_or froms k 0 ≡ from
    get_or_of froms k from below is = grind (arith, common_steps)

-- a supplier whose offers state where an interval begins is a supplier of the parts
pub stated_supplier : (parts : PartsData) (i from : ℕ) → All (IsPriceRow parts.suppliers (length parts.needs)) parts.prices → Contains (froms_stated parts i) from → i < parts.suppliers
stated_supplier parts i from formed has =
    let d : PriceRow = record { supplier = 0; from = 0; good = 0; price = 0 } in
    let below : has.0 < length (rows_of parts i) = omega (arith, has.1, map_length (rows_of parts i)) in
    let row = (All-filter (λ (r : PriceRow). r.supplier == i) (IsPriceRow parts.suppliers (length parts.needs)) parts.prices formed has.0 d below).supplier in
    let passes = filter_passes (λ (r : PriceRow). r.supplier == i) parts.prices has.0 d below in
    same_below (get_or (rows_of parts i) has.0 d).supplier i parts.suppliers row passes
  where
    map_length : (rows : List PriceRow) → length (map (λ r. r.from) rows) ≡ length rows
    map_length rows = grind (arith, common_steps)

    same_below : (a i n : ℕ) → a < n → (a == i) ≡ true → i < n
    same_below a i n less passes = grind (arith, nat_tests)

-- a supplier that lacks a price is a supplier of the parts
pub lack_supplier : (parts : PartsData) (i from k : ℕ) → IsWellFormed parts → LacksPrice parts i from k → i < parts.suppliers
lack_supplier parts i from k formed lack = stated_supplier parts i from formed.prices lack.interval

pub complete_from : (parts : PartsData) → IsWellFormed parts → ((i : ℕ) → i < parts.suppliers → LacksNoneOf parts i) → LacksNone parts
complete_from parts formed each = λ i from k lack. each i (lack_supplier parts i from k formed lack) from k lack

-- the first lack of a supplier after suppliers that lack nothing
pub first_of_all : (parts : PartsData) (i : ℕ) (stop : Stop JobFault) → ((j : ℕ) → j < i → LacksNoneOf parts j)
    → IfRefused stop (IsLackOf parts i) → IfRefused stop (IsFirstLackFault parts)
first_of_all parts i (Refused (MissingPrice supplier from k)) before lack =
    let same : i ≡ supplier = sym lack.0 in
    subst (λ (s : ℕ). IsFirstLack parts s from k) same (record {
      lacks = lack.1.lacks;
      first_supplier = λ j other good less other_lack. before j less other good other_lack;
      first_interval = lack.1.first_interval;
      first_good = lack.1.first_good;
    })
first_of_all parts i (Refused (TooManyGoods n)) before lack = lack
first_of_all parts i (Refused (ShareOrder s)) before lack = lack
first_of_all parts i (Refused WinnerOrder) before lack = lack
first_of_all parts i NoMemory before lack = tt
