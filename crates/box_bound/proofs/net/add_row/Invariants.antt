use Rattle.std.proofs.Common.{slice_index}
use Rattle.bound_tree.specs.Value.{cap}
use Rattle.box_bound.specs.BoxNet.{supplier_node, good_node, HasMore}
use Rattle.box_bound.proofs.net.add_row.Given as goal

abbrev pub invariant-loop-k : goal.invariant-loop-k
invariant-loop-k l = HasMore l.fn.net l.net l.k
    (λ k. record { tail = supplier_node l.i; head = good_node l.job k; low = 0; cap = cap l.job l.i k; cost = slice_index l.prices k })
