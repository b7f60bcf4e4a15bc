use Rattle.std.proofs.Common.{◌≡◌, ◌++◌}
use Rattle.tqd_instance.specs.Plan.{units}
use Rattle.plan_report.specs.Lines.{texts_to}
use Rattle.plan_report.specs.Named.{good_at, name_at}
use Rattle.plan_report.specs.PlanText.{supplier_text}
use Rattle.plan_report.proofs.plan.plan_text.Given as goal

abbrev pub invariant-loop-i : goal.invariant-loop-i
invariant-loop-i l = l.text.items ≡ l.initial.text.items ++ texts_to l.i (supplier_text l.job (units l.plan) (good_at l.names l.goods) (name_at l.suppliers))
