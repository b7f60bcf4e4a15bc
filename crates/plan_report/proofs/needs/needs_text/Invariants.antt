use Rattle.std.proofs.Common.{◌≡◌}
use Rattle.plan_report.specs.Lines.{texts_to}
use Rattle.plan_report.specs.NeedsText.{need_text}
use Rattle.plan_report.proofs.needs.needs_text.Given as goal

abbrev pub invariant-loop-k : goal.invariant-loop-k
invariant-loop-k l = l.text.items ≡ texts_to l.k (need_text l.bill.names l.needs.goods l.needs.units)
