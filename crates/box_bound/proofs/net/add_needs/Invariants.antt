use Rattle.box_bound.specs.BoxNet.{need_arc, HasMore}
use Rattle.box_bound.proofs.net.add_needs.Given as goal

abbrev pub invariant-loop-k : goal.invariant-loop-k
invariant-loop-k l = HasMore l.fn.net l.net l.k (need_arc l.job)
