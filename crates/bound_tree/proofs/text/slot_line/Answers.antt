use Rattle.bound_tree.proofs.RootRows.{slot_line_is}
use Rattle.bound_tree.proofs.text.slot_line.Goals as goal

pub returns : goal.returns
returns c =
    slot_line_is c.args.job.now c.args.area.now c.args.row.now c.args.slot c.goods.result.now c.places.result.now c.in_ok-text.text.items c.add_prices.new.text.items c.add_root_places.new.text.items
    c.push.new.self.items c.goods.ensures c.places.ensures c.in_ok-text.ensures c.in_ok-add_prices.ensures c.in_ok-add_root_places.ensures c.in_ok-push.ensures.items
