use Rattle.std.proofs.Common.{◌≡◌, ◌*◌, ◌≤◌}
use Rattle.tqd_base.specs.Sum.{sum_to}
use Rattle.mcf_lower.specs.Net.{arc_of}
use Rattle.mcf_lower.specs.Answers.{units_of}
use Rattle.box_bound.proofs.flow.flow_cost.Given as goal

abbrev pub invariant-loop-a : goal.invariant-loop-a
invariant-loop-a l = record {
  is_sum : l.sum ≡ sum_to l.a (λ a. (arc_of l.net a).cost * units_of l.flow a);
  within : l.sum ≤ l.a * (1000000000000 * 10000000000);
}
