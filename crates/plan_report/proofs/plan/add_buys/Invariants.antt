use Rattle.std.proofs.Common.{◌≡◌, ◌++◌}
use Rattle.tqd_instance.specs.Plan.{units}
use Rattle.plan_report.specs.Lines.{texts_to}
use Rattle.plan_report.specs.Named.{good_at}
use Rattle.plan_report.specs.PlanText.{buy_text}
use Rattle.plan_report.proofs.plan.add_buys.Given as goal

abbrev pub invariant-loop-k : goal.invariant-loop-k
invariant-loop-k l = l.text.items ≡ l.initial.text.items ++ texts_to l.k (buy_text l.job (units l.plan) (good_at l.names.names.now l.names.goods.now) l.i)
