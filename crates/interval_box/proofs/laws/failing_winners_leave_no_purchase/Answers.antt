use Rattle.interval_box.proofs.Winning.{none_feasible}
use Rattle.interval_box.proofs.laws.failing_winners_leave_no_purchase.Goals as goal

pub returns : goal.returns
returns c = none_feasible
