use Rattle.std.proofs.Common.{◌+◌, ◌*◌, count_by, length}
use Rattle.search_book.specs.declared.node.Node.{Node}
use Rattle.search_book.specs.Counts.{is_split}
use Rattle.search_book.proofs.Trees.{IsRead}
use Rattle.search_book.proofs.finish.preorder.Given as goal

abbrev pub invariant-loop-n : goal.invariant-loop-n
invariant-loop-n l = IsRead l.fn.nodes.items l.nodes.items l.tree l.todo.items

-- each node that is read is off the stack; a split node is read once, and puts two on it
abbrev pub decreases-loop-n : goal.decreases-loop-n
decreases-loop-n l = 2 * count_by (λ (x : Node). is_split x.phase) l.nodes.items + length l.todo.items
