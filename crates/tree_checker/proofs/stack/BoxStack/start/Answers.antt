use Rattle.std.proofs.Common.{List, sym, subst, arith}
use Rattle.std.specs.Prelude.{reverse}
use Rattle.interval_box.specs.declared.boxes.IntervalBox.{IntervalBox}
use Rattle.tree_checker.specs.Stack.{IsRoomy}
use Rattle.tree_checker.proofs.Stacks.{roomy_none}
use Rattle.tree_checker.proofs.stack.BoxStack.start.Goals as goal

pub invariant_of-result : goal.invariant_of-result
invariant_of-result c = record {
  reserved = omega (arith, c.in_ok-boxes.ensures.exact);
  roomy = subst (λ (xs : List IntervalBox). IsRoomy (reverse xs)) (sym c.in_ok-boxes.ensures.items) roomy_none;
}
