use Rattle.std.proofs.Common.{arith}
use Rattle.tree_checker.proofs.Stacks.{roomy_popped}
use Rattle.tree_checker.proofs.stack.BoxStack.drop_first.Goals as goal

pub invariant_of-self : goal.invariant_of-self
invariant_of-self c = record {
  reserved = omega (arith, c.pop-dropped.ensures.capacity, c.self.invariant.reserved);
  roomy = roomy_popped _ _ c.pop-dropped.result c.pop-dropped.ensures.items c.self.invariant.roomy;
}
