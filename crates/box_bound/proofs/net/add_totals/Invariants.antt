use Rattle.box_bound.specs.BoxNet.{total_arc, HasMore}
use Rattle.box_bound.proofs.net.add_totals.Given as goal

abbrev pub invariant-loop-i : goal.invariant-loop-i
invariant-loop-i l = HasMore l.fn.net l.net l.i (total_arc l.job l.area)
