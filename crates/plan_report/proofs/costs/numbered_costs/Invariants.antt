use Rattle.std.proofs.Common.{◌≡◌}
use Rattle.plan_report.specs.Lines.{texts_to}
use Rattle.plan_report.specs.CostsText.{nth_cost}
use Rattle.plan_report.proofs.costs.numbered_costs.Given as goal

abbrev pub invariant-loop-n : goal.invariant-loop-n
invariant-loop-n l = l.text.items ≡ texts_to l.n (nth_cost l.word l.first l.costs)
