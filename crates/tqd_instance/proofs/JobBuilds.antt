-- What holds of a job that well-formed parts describe.
use Rattle.std.proofs.Common.{ℕ, ◌≡◌, ◌*◌, ◌/◌, ◌<◌, ◌≤◌, List, length, get_or, Option, Some, None, find, arith, refl, ap, ◌∙◌, sym}
use Rattle.std.specs.Option.{IfSome}
use Rattle.std.proofs.Math.Nat.{mul-le-mul_left}
use Rattle.tqd_base.specs.declared.limits.TheConstants.{QTY_MAX, SUPPLIERS_MAX}
use Rattle.tqd_instance.specs.declared.supplier.Supplier.{Supplier}
use Rattle.tqd_instance.specs.declared.parts.ShareRow.{ShareRow}
use Rattle.tqd_instance.specs.declared.parts.Over.{Over}
use Rattle.tqd_instance.specs.declared.parts.Over.TheVariants.{Percent, Any as AnyAmount}
use Rattle.tqd_instance.specs.declared.parts.OverRow.{OverRow}
use Rattle.tqd_instance.specs.PartsData.{PartsData}
use Rattle.tqd_base.specs.Sum.{sum_to}
use Rattle.tqd_instance.specs.Offer.{no_supplier}
use Rattle.tqd_instance.specs.JobFacts.{IsGood, IsJob}
use Rattle.tqd_instance.specs.Parts.{IsOver, IsOverRow, IsWellFormed}
use Rattle.tqd_instance.specs.Built.{is_own, is_general, first_term, over_of, most_by, most_of, stock_of, table, FewGoods, GoodShares, HasBadShare}
use Rattle.tqd_instance.specs.Rows.{IsBuilt}
use Rattle.tqd_instance.proofs.SumLemmas.{sum_to-bound}
use Rattle.tqd_instance.proofs.Tables.{length-table, get_or-table}
use Rattle.tqd_instance.proofs.SegmentLemmas.{found_is}
use Rattle.tqd_instance.proofs.SupplierFacts.{stock_within}

-- only a supplier of the parts has a share
pub good_shares_from : (parts : PartsData) → IsWellFormed parts → ((i : ℕ) → i < parts.suppliers → HasBadShare parts i → ⊥) → GoodShares parts
good_shares_from parts formed none = λ i bad.
    let row = formed.shares bad.0 bad.1 bad.2 in
    none i (omega (arith, row.supplier, ap (λ (r : ShareRow). r.supplier) bad.3, bad.4.0)) bad

-- the most with a need and a stock in range
most_by_in_range : (over : Option Over) (need in_stock : ℕ) → IfSome over IsOver → 1 ≤ need → need ≤ QTY_MAX → in_stock ≤ SUPPLIERS_MAX * QTY_MAX → IsGood need (most_by over need in_stock)
most_by_in_range None need in_stock over some within stock = record { some = some; within = within; ordered = omega arith; bounded = omega arith }
most_by_in_range (Some (Percent p)) need in_stock over some within stock =
    let product : need * p ≤ need * 1000 = mul-le-mul_left need over in
    let part : need * p / 100 ≤ need * 10 = tenfold need (need * p) product in
    record { some = some; within = within; ordered = omega arith; bounded = omega arith }
  where
    tenfold : (need product : ℕ) → product ≤ need * 1000 → product / 100 ≤ need * 10
    tenfold need product le = omega arith
most_by_in_range (Some AnyAmount) need in_stock over some within stock = record { some = some; within = within; ordered = omega arith; bounded = omega arith }

over_in_range : (parts : PartsData) (k : ℕ) → IsWellFormed parts → IfSome (over_of parts k) IsOver
unfolding over_of
over_in_range parts k formed =
    of_rows (find (is_own k) parts.overs) (find is_general parts.overs)
    (λ r is. (found_is (IsOverRow (length parts.needs)) (is_own k) parts.overs r formed.overs is).over)
    (λ r is. (found_is (IsOverRow (length parts.needs)) is_general parts.overs r formed.overs is).over)
  where
    of_rows : (own general : Option OverRow) → ((r : OverRow) → own ≡ Some r → IsOver r.over) → ((r : OverRow) → general ≡ Some r → IsOver r.over)
        → IfSome (first_term own general) IsOver
    of_rows (Some r) general own_is general_is = own_is r refl
    of_rows None (Some r) own_is general_is = general_is r refl
    of_rows None None own_is general_is = tt

good_is : (parts : PartsData) (k : ℕ) → IsWellFormed parts → k < length parts.needs → IsGood (get_or parts.needs k 0) (most_of parts k)
unfolding most_of
good_is parts k formed k_in =
    let need = formed.needs k 0 k_in in
    let in_stock = sum_to-bound parts.suppliers QTY_MAX (λ i. stock_of parts i k) (λ i below. stock_within parts i k formed) in
    let few = formed.suppliers in
    most_by_in_range (over_of parts k) (get_or parts.needs k 0) (sum_to parts.suppliers (λ i. stock_of parts i k)) (over_in_range parts k formed)
    need.0 need.1 (omega arith)

pub job_facts : (parts : PartsData) (needs mosts : List ℕ) (suppliers : List Supplier) (least_winners most_winners : ℕ) → IsWellFormed parts → FewGoods parts
    → needs ≡ parts.needs → mosts ≡ table (length parts.needs) (most_of parts) → length suppliers ≡ parts.suppliers
    → ((i : ℕ) → i < parts.suppliers → IsBuilt parts i (get_or suppliers i no_supplier))
    → least_winners ≡ parts.least_winners → most_winners ≡ parts.most_winners → least_winners ≤ most_winners
    → IsJob needs mosts suppliers least_winners most_winners
job_facts parts needs mosts suppliers least_winners most_winners formed few needs_is mosts_is count built least_is most_is ordered =
    let size : length mosts ≡ length parts.needs = ap length mosts_is ∙ length-table (length parts.needs) (most_of parts) in
    record {
      few_goods = rw needs_is few;
      width = size ∙ sym (ap length needs_is);
      goods = λ k below.
          let k_in : k < length parts.needs = rw needs_is at below in
          rw (needs_is, mosts_is, get_or-table (length parts.needs) (most_of parts) k 0 k_in) (good_is parts k formed k_in);
      few_suppliers = omega (arith, formed.suppliers);
      offers = λ i below. rw needs_is (built i (omega arith)).facts;
      winners_ordered = ordered;
      few_winners = omega (arith, formed.most_winners);
    }
