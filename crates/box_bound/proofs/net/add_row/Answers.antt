use Rattle.std.proofs.Common.{◌+◌, length, slice_index, refl, arith}
use Rattle.bound_tree.specs.Value.{cap}
use Rattle.box_bound.specs.BoxNet.{supplier_node, good_node}
use Rattle.box_bound.proofs.Nets.{few_arcs, row_within, has_one_more, arc_up_to, same_arc, cap_is}
use Rattle.box_bound.proofs.net.add_row.Goals as goal

pub add-requires-clause-few : goal.add-requires-clause-few
add-requires-clause-few c =
    omega (
      arith,
      few_arcs c.args.job.now (length c.loop-k.net.arcs + 1)
          (omega (arith, c.loop-k.invariant.arcs, c.requires.arcs, row_within c.args.job.now c.args.i c.loop-k.k c.requires.supplier (omega arith))),
    )

pub loop-k-preserved : goal.loop-k-preserved
loop-k-preserved c =
    let job = c.args.job.now in
    let i = c.args.i in
    let k = c.loop-k.k in
    let prices = c.args.prices.now in
    let units = cap_is job i k c.stock.result c.most.result c.min-units.result c.stock.ensures.value c.most.ensures.value c.min-units.ensures in
    has_one_more c.args.net.now c.loop-k.net c.add.new.net k (λ k. arc_up_to (supplier_node i) (good_node job k) (cap job i k) (slice_index prices k))
    (arc_up_to c.supplier_node.result c.good_node.result c.min-units.result (slice_index prices k)) c.loop-k.invariant c.in_ok-add.ensures
    (same_arc c.supplier_node.result c.good_node.result c.min-units.result (slice_index prices k) (supplier_node i) (good_node job k) (cap job i k) (slice_index prices k)
    c.supplier_node.ensures.node c.good_node.ensures.node units refl)
