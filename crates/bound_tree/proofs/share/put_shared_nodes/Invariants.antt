use Rattle.std.proofs.Common.{◌≡◌, ◌≤◌, ◌++◌, [], ◌∷◌, drop, reverse}
use Rattle.tqd_base.specs.World.{Bytes}
use Rattle.bound_tree.specs.Root.{root_of}
use Rattle.bound_tree.specs.Shared.{none_given}
use Rattle.bound_tree.specs.SlotTable.{given_of, IsTable}
use Rattle.bound_tree.proofs.Writing.{IsWriting}
use Rattle.bound_tree.proofs.SharedNodes.{FitsNodes, nodes_text}
use Rattle.bound_tree.proofs.share.put_shared_nodes.Given as goal

abbrev pub invariant-loop-at : goal.invariant-loop-at
invariant-loop-at g l = record {
  fits : FitsNodes l.job (reverse l.due.items) (drop l.at l.tree);
  table : IsTable l.job l.table;
  few : l.table.count ≤ l.at;
  written : Bytes;
  writing : IsWriting (g.D.Desk.state l.initial.desk) (g.D.Desk.state l.desk) l.slot written;
  rest : nodes_text l.job (root_of l.job ∷ []) none_given l.tree ≡ written ++ nodes_text l.job (reverse l.due.items) (given_of l.job l.table) (drop l.at l.tree);
}
