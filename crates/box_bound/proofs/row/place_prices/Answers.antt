use Rattle.std.proofs.Common.{ap, ◌∙◌, arith}
use Rattle.flow_prices.specs.Prices.{number_of}
use Rattle.box_bound.specs.BoxNet.{supplier_node}
use Rattle.box_bound.proofs.NumberRows.{places_none, places_more, read_negated}
use Rattle.box_bound.proofs.row.place_prices.Goals as goal

pub loop-i-init : goal.loop-i-init
loop-i-init c = places_none c.args.area.now c.args.numbers.now c.in_ok-prices.prices.items c.in_ok-prices.ensures.items

pub loop-i-preserved : goal.loop-i-preserved
loop-i-preserved c =
    let i = c.loop-i.i in
    let h = c.in_ok-push_copies.ensures.next in
    let g = c.get-price.ensures in
    let n = c.requires.numbers.each (supplier_node i) (omega arith) in
    places_more c.args.area.now c.args.numbers.now i c.loop-i.prices.items c.push_copies.new.prices.items _ c.count_of.result c.loop-i.invariant h c.count_of.ensures
    (read_negated c.get-price.result (number_of c.args.numbers.now (supplier_node i)) (g ∙ ap (number_of c.args.numbers.now) c.supplier_node.ensures.node) n)
    c.in_ok-push_copies.ensures.in_range
