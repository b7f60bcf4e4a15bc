use Rattle.std.proofs.Common.{◌++◌, ◌∙◌, ap, sym, subst, take, map}
use Rattle.tqd_base.specs.World.{Bytes}
use Rattle.bound_tree.specs.TreeText.{node_line, lines_text}
use Rattle.bound_tree.specs.WriteTree.{WriteGives}
use Rattle.bound_tree.specs.declared.write.WriteStop.TheVariants.{Memory}
use Rattle.bound_tree.proofs.TreeLines.{HasRest, lines_none, node_at, nodes_more, nodes_rest}
use Rattle.bound_tree.proofs.Writing.{begin, more, halts, stops, at_err}
use Rattle.bound_tree.proofs.write.put_nodes.Goals as goal

pub loop-at-init : goal.loop-at-init
loop-at-init g c = begin _ c.args.slot _ lines_none c.requires

pub returns-in_err-line : goal.returns-in_err-line
returns-in_err-line g c =
    let nodes = c.args.tree.now in
    let h = nodes_rest nodes c.loop-at.at c.node.result.now (node_at nodes c.loop-at.at _ c.node.ensures) in
    at_err (WriteGives (g.D.Desk.state c.args.desk.now) (g.D.Desk.state c.loop-at.desk) c.args.slot (lines_text (map node_line nodes))) _ Memory c.from_residual.ensures.1
    (stops (g.D.Desk.state c.args.desk.now) (g.D.Desk.state c.loop-at.desk) c.args.slot _ _ _ h.joined c.loop-at.invariant)

pub returns-in_err-put_line : goal.returns-in_err-put_line
returns-in_err-put_line g c =
    let nodes = c.args.tree.now in
    let piece = c.deref.ensures.value ∙ c.in_ok-line.ensures in
    let h = subst (HasRest (lines_text (map node_line nodes)) (lines_text (map node_line (take c.loop-at.at nodes)))) (sym piece)
    (nodes_rest nodes c.loop-at.at c.node.result.now (node_at nodes c.loop-at.at _ c.node.ensures)) in
    at_err (WriteGives (g.D.Desk.state c.args.desk.now) (g.D.Desk.state c.put_line.new.desk) c.args.slot (lines_text (map node_line nodes))) _ c.in_err-put_line.field-0.0 c.from_residual-in_err-put_line.ensures.1
    (halts (g.D.Desk.state c.args.desk.now) (g.D.Desk.state c.loop-at.desk) (g.D.Desk.state c.put_line.new.desk) c.args.slot _ _ h.rest _ c.in_err-put_line.field-0.0 h.joined c.loop-at.invariant c.in_err-put_line.ensures)

pub loop-at-preserved : goal.loop-at-preserved
loop-at-preserved g c =
    let nodes = c.args.tree.now in
    let piece = c.deref.ensures.value ∙ c.in_ok-line.ensures in
    let before = lines_text (map node_line (take c.loop-at.at nodes)) in
    more (g.D.Desk.state c.args.desk.now) (g.D.Desk.state c.loop-at.desk) (g.D.Desk.state c.put_line.new.desk) c.args.slot before c.deref.result.now _
    (nodes_more nodes c.loop-at.at _ (node_at nodes c.loop-at.at _ c.node.ensures) ∙ ap (λ (t : Bytes). before ++ t) (sym piece)) c.loop-at.invariant c.in_ok-put_line.ensures
