use Rattle.std.proofs.Common.{subst, sym, arith}
use Rattle.std.proofs.lemmas.List.Elements.{All-push, All-same}
use Rattle.bound_tree.specs.Prices.{IsPrice, price_at}
use Rattle.box_bound.proofs.NumberRows.{next_one, read_price, price_within}
use Rattle.box_bound.proofs.row.push_goods.Goals as goal

pub loop-k-preserved : goal.loop-k-preserved
loop-k-preserved c =
    let inv = c.loop-k.invariant in
    let k = c.loop-k.k in
    let goods = c.args.start.now.goods in
    let pushed = c.in_ok-push.ensures.items in
    let price = price_within goods k c.requires.prices (omega (arith, c.requires.goods)) in
    let read = read_price c.good.result (price_at goods k) c.good.ensures price in
    record {
      next = next_one _ _ _ _ (price_at goods) _ inv.next pushed read;
      in_range = All-same IsPrice _ _ pushed (All-push IsPrice _ _ inv.in_range (subst IsPrice (sym read) price));
    }
