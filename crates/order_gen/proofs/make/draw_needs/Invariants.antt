use Rattle.std.proofs.Common.{◌≡◌, ◌*◌, ◌≤◌}
use Rattle.tqd_base.specs.Sum.{sum_to}
use Rattle.tqd_instance.specs.Built.{table}
use Rattle.order_gen.specs.Draws.{state_after}
use Rattle.order_gen.specs.GenParts.{drawn_need}
use Rattle.order_gen.proofs.Steps.{with_needs}
use Rattle.order_gen.proofs.make.draw_needs.Given as goal

abbrev pub invariant-loop : goal.invariant-loop
invariant-loop l = record {
  parts : l.parts ≡ with_needs l.fn.parts (table l.counter (drawn_need l.fn.draws.state));
  draws : l.draws.state ≡ state_after l.fn.draws.state l.counter;
  sum : l.sum ≡ sum_to l.counter (drawn_need l.fn.draws.state);
  within : l.sum ≤ l.counter * 1000;
}
