use Rattle.std.proofs.Common.{slice_index, refl, arith}
use Rattle.bound_tree.specs.Value.{cap}
use Rattle.box_bound.specs.Relaxed.{least_price}
use Rattle.box_bound.specs.BoxNet.{supplier_node, good_node}
use Rattle.box_bound.proofs.LeastPrices.{least_price-within}
use Rattle.box_bound.proofs.Nets.{has_more_offers, arc_up_to, same_arc}
use Rattle.box_bound.proofs.net.add_offers.Goals as goal

pub add_row-requires-clause-cheap : goal.add_row-requires-clause-cheap
add_row-requires-clause-cheap c = λ k small.
    omega (
      arith,
      c.find_least_prices.ensures.each k small,
      least_price-within c.args.job.now c.args.area.now c.loop-i.i k (omega arith) (c.requires.of_job.ranges c.loop-i.i (omega arith)),
    )

pub loop-i-preserved : goal.loop-i-preserved
loop-i-preserved c =
    let job = c.args.job.now in
    let area = c.args.area.now in
    let i = c.loop-i.i in
    let prices = c.find_least_prices.new.least in
    record {
      offers = has_more_offers job area c.args.net.now c.loop-i.net c.add_row.new.net i
          (λ k. arc_up_to (supplier_node i) (good_node job k) (cap job i k) (slice_index prices k)) c.loop-i.invariant.offers c.in_ok-add_row.ensures
          (λ k small. same_arc (supplier_node i) (good_node job k) (cap job i k) (slice_index prices k) (supplier_node i) (good_node job k) (cap job i k) (least_price job area i k)
          refl refl refl (c.find_least_prices.ensures.each k small));
      prices = c.find_least_prices.ensures.len;
    }
