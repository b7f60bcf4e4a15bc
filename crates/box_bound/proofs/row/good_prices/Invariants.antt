use Rattle.flow_prices.specs.Prices.{number_of}
use Rattle.box_bound.specs.BoxNet.{good_node}
use Rattle.box_bound.proofs.NumberRows.{AreFirst}
use Rattle.box_bound.proofs.row.good_prices.Given as goal

abbrev pub invariant-loop-k : goal.invariant-loop-k
invariant-loop-k l = AreFirst l.k l.prices.items (λ k. number_of l.numbers (good_node l.job k))
