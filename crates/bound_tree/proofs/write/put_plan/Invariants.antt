use Rattle.tqd_instance.specs.Job.{goods}
use Rattle.tqd_instance.specs.Plan.{units}
use Rattle.bound_tree.specs.TreeText.{lines_to, buy_line, lines_text}
use Rattle.bound_tree.proofs.Writing.{IsWriting}
use Rattle.bound_tree.proofs.write.put_plan.Given as goal

abbrev pub invariant-loop-i : goal.invariant-loop-i
invariant-loop-i g l = IsWriting (g.D.Desk.state l.initial.desk) (g.D.Desk.state l.desk) l.slot
    (lines_text (lines_to l.i (λ i. lines_to (goods l.job) (buy_line (units l.plan) i))))
