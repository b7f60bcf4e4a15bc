use Rattle.std.proofs.Common.{◌≡◌, ◌+◌, ◌-◌, arith}
use Rattle.bound_tree.specs.Prices.{count_of}
use Rattle.interval_box.specs.Ranges.{high_of}
use Rattle.bound_tree.proofs.RootRows.{range_written, zeros_before}
use Rattle.bound_tree.proofs.text.add_root_range.Goals as goal

pub returns : goal.returns
returns c =
    let count : c.args.at + c.count_of.result - c.args.at ≡ count_of c.args.area.now c.args.i = omega (arith, c.count_of.ensures) in
    let past : c.args.segments - c.high_of.result ≡ c.args.segments - high_of c.args.area.now c.args.i = omega (arith, c.high_of.ensures) in
    range_written c.args.area.now c.args.places.now c.args.at c.args.i c.args.segments (c.max.result - 1) (c.args.at + c.count_of.result - c.args.at) (c.args.segments - c.high_of.result)
    c.args.text.now.items c.add_zeros.new.text.items c.add_prices.new.text.items c.add_zeros-2.new.text.items c.requires.ordered c.requires.within c.requires.places
    (zeros_before c.args.area.now c.args.i c.low_of.result c.max.result c.low_of.ensures c.max.ensures) count past
    c.in_ok-add_zeros.ensures c.in_ok-add_prices.ensures c.in_ok-add_zeros-2.ensures
