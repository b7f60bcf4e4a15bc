-- A row's prices as one list.
use Rattle.std.proofs.Common.{◌↔◌, ℤ, List, length, take, drop, ap, subst, arith, length-append, length-drop}
use Rattle.std.specs.List.{All}
use Rattle.std.proofs.lemmas.List.{length-take, take-append-drop}
use Rattle.std.proofs.lemmas.List.Elements.{All-append, All-take, All-drop}
use Rattle.tqd_instance.specs.declared.job.Job.{Job}
use Rattle.tqd_instance.specs.Job.{goods}
use Rattle.interval_box.specs.declared.boxes.IntervalBox.{IntervalBox}
use Rattle.bound_tree.specs.Prices.{IsPrice, Fits, row_of, AreFitting}

fits : (job : Job) (area : IntervalBox) (prices : List ℤ) → AreFitting job area prices → Fits job area (row_of job prices)
unfolding row_of
fits job area prices a = record {
  goods = omega (arith, length-take (goods job) prices, a.count);
  places = omega (arith, length-drop (goods job) prices, a.count);
  good_prices = All-take IsPrice (goods job) prices a.in_range;
  place_prices = All-drop IsPrice (goods job) prices a.in_range;
}

fitting : (job : Job) (area : IntervalBox) (prices : List ℤ) → Fits job area (row_of job prices) → AreFitting job area prices
unfolding row_of
fitting job area prices f = record {
  count = omega (arith, ap length (take-append-drop (goods job) prices), length-append (take (goods job) prices) (drop (goods job) prices), f.goods, f.places);
  in_range = subst (All IsPrice) (take-append-drop (goods job) prices) (All-append IsPrice (take (goods job) prices) (drop (goods job) prices) f.good_prices f.place_prices);
}

pub fits_as_one : (job : Job) (area : IntervalBox) (prices : List ℤ) → Fits job area (row_of job prices) ↔ AreFitting job area prices
fits_as_one job area prices = (fitting job area prices, fits job area prices)
