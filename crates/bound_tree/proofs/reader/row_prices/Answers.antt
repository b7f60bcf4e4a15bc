use Rattle.std.proofs.Common.{arith, rules, ◌∙◌}
use Rattle.std.proofs.lemmas.Int.{to_z-of_z}
use Rattle.std.proofs.lemmas.List.{take_all}
use mir.Syntax.{w128}
use mir.Val.{SFits}
use Rattle.bound_tree.specs.LineHead.{prices_of}
use Rattle.bound_tree.proofs.RowReads.{left_at_first, some_left, fields_left, next_left, row_more}
use Rattle.bound_tree.proofs.reader.row_prices.Goals as goal

pub loop-place-init : goal.loop-place-init
loop-place-init c =
    let first = left_at_first c.args.count c.args.line.now _ c.of_prices-fields.ensures c.requires in
    record { left = first.0; count = first.1; done = c.new-numbers.ensures.items }

pub next_price-requires-clause-some : goal.next_price-requires-clause-some
next_price-requires-clause-some c = fields_left (prices_of c.args.line.now) c.loop-place._place _ c.loop-place.invariant.left (omega (arith, c.loop-place-test.true, c.loop-place.invariant.count))

pub next_price-requires-clause-prices : goal.next_price-requires-clause-prices
next_price-requires-clause-prices c = some_left (prices_of c.args.line.now) c.loop-place._place _ c.loop-place.invariant.left

pub loop-place-preserved : goal.loop-place-preserved
loop-place-preserved c =
    let price = c.next_price.result in
    let fits : SFits w128 price = search rules in
    let next = next_left (prices_of c.args.line.now) c.loop-place._place _ _ price c.loop-place.invariant.left c.next_price.ensures in
    record {
      left = next.1;
      count = c.loop-place.invariant.count;
      done = row_more (prices_of c.args.line.now) _ _ c.loop-place._place price _ c.in_ok-push.ensures.items (to_z-of_z w128 price fits) c.loop-place.invariant.done next.0;
    }

pub returns : goal.returns
returns c = c.loop-place.invariant.done ∙ take_all c.loop-place._place (prices_of c.args.line.now) (omega (arith, c.loop-place-test.false, c.loop-place.invariant.count))
