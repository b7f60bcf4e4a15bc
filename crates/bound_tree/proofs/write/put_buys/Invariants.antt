use Rattle.tqd_instance.specs.Plan.{units}
use Rattle.bound_tree.specs.TreeText.{lines_to, buy_line, lines_text}
use Rattle.bound_tree.proofs.Writing.{IsWriting}
use Rattle.bound_tree.proofs.write.put_buys.Given as goal

abbrev pub invariant-loop-k : goal.invariant-loop-k
invariant-loop-k g l = IsWriting (g.D.Desk.state l.initial.desk) (g.D.Desk.state l.desk) l.slot (lines_text (lines_to l.k (buy_line (units l.plan) l.i)))
