use Rattle.std.proofs.Common.{take, map}
use Rattle.bound_tree.specs.TreeText.{node_line, lines_text}
use Rattle.bound_tree.proofs.Writing.{IsWriting}
use Rattle.bound_tree.proofs.write.put_nodes.Given as goal

abbrev pub invariant-loop-at : goal.invariant-loop-at
invariant-loop-at g l = IsWriting (g.D.Desk.state l.initial.desk) (g.D.Desk.state l.desk) l.slot (lines_text (map node_line (take l.at l.tree)))
