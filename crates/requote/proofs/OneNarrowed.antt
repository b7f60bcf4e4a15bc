-- A row that is narrowed is one row: its prices are those of the row.
use Rattle.std.proofs.Common.{◌≡◌, sym, ◌∙◌, arith}
use Rattle.tqd_instance.specs.declared.job.Job.{Job}
use Rattle.tqd_instance.specs.Job.{suppliers}
use Rattle.interval_box.specs.declared.boxes.IntervalBox.{IntervalBox}
use Rattle.interval_box.specs.Ranges.{IsBoxOf, IsRoot}
use Rattle.bound_tree.specs.Prices.{Prices, place_of, price_at, segment_price}
use Rattle.bound_tree.specs.Narrowed.{IsPartOf, IsNarrowed}
use Rattle.bound_tree.specs.OtherBox.{narrowed}
use Rattle.bound_tree.proofs.OtherBoxes.{places_by-same, places_by-all_of, narrowed_goods, narrowed_places_are, segment_price-is}

-- each box is a part of the root
pub part_of_root : (job : Job) (root area : IntervalBox) → IsRoot job root → IsBoxOf job area → IsPartOf job area root
part_of_root job root area r b i below = record {
  low = omega (arith, (r.whole i below).from_zero);
  high = omega (arith, (r.whole i below).to_last, (b.ranges i below).within);
}

same_prices : (a b : Prices) → a.goods ≡ b.goods → a.places ≡ b.places → a ≡ b
same_prices a b goods places = λ j. record { goods = goods j; places = places j }

pub narrowed_is_one : (job : Job) (area part : IntervalBox) (row narrow : Prices) → IsNarrowed job area part row narrow → narrow ≡ narrowed job area part row
narrowed_is_one job area part row narrow n =
    let n_suppliers = suppliers job in
    same_prices narrow (narrowed job area part row) (n.goods ∙ sym (narrowed_goods job area part row))
    (sym (places_by-all_of part n_suppliers narrow.places n.fits.places)
    ∙ (places_by-same part n_suppliers (λ i j. price_at narrow.places (place_of part i j)) (segment_price area row)
    (λ i j below some admits. sym (segment_price-is part narrow i j) ∙ n.segments i j below some admits)
    ∙ sym (narrowed_places_are job area part row)))
