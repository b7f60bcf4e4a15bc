use Rattle.box_bound.specs.NodeRow.{ArePlacePrices}
use Rattle.box_bound.proofs.row.place_prices.Given as goal

abbrev pub invariant-loop-i : goal.invariant-loop-i
invariant-loop-i l = ArePlacePrices l.area l.numbers l.i l.prices.items
