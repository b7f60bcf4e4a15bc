use Rattle.std.proofs.Common.{◌≡◌, ◌+◌, ◌++◌, [], ◌∷◌, refl, sym, ◌∙◌, ap, subst, drop, reverse, arith, List, append-nil, append_assoc, map}
use Rattle.tqd_base.specs.World.{Bytes}
use Rattle.tqd_base.specs.Calls.{Puts}
use Rattle.interval_box.specs.declared.boxes.IntervalBox.{IntervalBox}
use Rattle.bound_tree.specs.declared.write.WriteStop.TheVariants.{Memory}
use Rattle.bound_tree.specs.Root.{root_of}
use Rattle.bound_tree.specs.TreeText.{lines_text}
use Rattle.bound_tree.specs.SlotText.{item_line}
use Rattle.bound_tree.specs.SlotTree.{items_of}
use Rattle.bound_tree.specs.Shared.{Given, none_given, shared}
use Rattle.bound_tree.specs.SlotTable.{given_of, items_at, given_at}
use Rattle.bound_tree.specs.WriteTree.{WriteGives}
use Rattle.bound_tree.proofs.Writing.{begin, more, halts, stops, at_err}
use Rattle.bound_tree.proofs.SharedNodes.{FitsNodes, nodes_text, pushed, is_due, whole_text, ended_text, step_at, due_after, none_count, root_fits, split_in, given_at-few, given_count}
use Rattle.bound_tree.proofs.share.put_shared_nodes.Goals as goal

pub returns-in_err-due : goal.returns-in_err-due
returns-in_err-due g c = λ whole e.
    let start = g.D.Desk.state c.args.desk.now in
    at_err (WriteGives start start c.args.slot (lines_text (map item_line (items_of (shared c.args.job.now whole))))) _ Memory c.from_residual.ensures.1
    (stops start start c.args.slot [] _ _ refl (begin start c.args.slot [] refl c.requires.writes))

pub returns-in_err-table : goal.returns-in_err-table
returns-in_err-table g c = λ whole e.
    let start = g.D.Desk.state c.args.desk.now in
    at_err (WriteGives start start c.args.slot (lines_text (map item_line (items_of (shared c.args.job.now whole))))) _ Memory c.from_residual-in_err-table.ensures.1
    (stops start start c.args.slot [] _ _ refl (begin start c.args.slot [] refl c.requires.writes))

pub loop-at-init : goal.loop-at-init
loop-at-init g c =
    let job = c.args.job.now in
    let due : reverse c.in_ok-due.due.items ≡ root_of job ∷ [] = ap (λ (xs : List IntervalBox). reverse xs) c.in_ok-due.ensures in
    let none = c.in_ok-table.ensures.none job in
    let fits = subst (FitsNodes job (root_of job ∷ [])) (sym c.requires.nodes.nodes_are) (root_fits job c.requires.nodes.tree c.requires.nodes.of_root) in
    record {
      fits = subst (λ (ds : List IntervalBox). FitsNodes job ds c.args.tree.now) (sym due) fits;
      table = c.in_ok-table.ensures.slots job;
      few = omega (arith, given_count job c.in_ok-table.table, ap (λ (given : Given). given.count) none, none_count);
      written = [];
      writing = begin (g.D.Desk.state c.args.desk.now) c.args.slot [] refl c.requires.writes;
      rest = ap (λ (ds : List IntervalBox). nodes_text job ds none_given c.args.tree.now) (sym due) ∙ ap (λ (given : Given). nodes_text job (reverse c.in_ok-due.due.items) given c.args.tree.now) (sym none);
    }

pub unwrap-area-requires : goal.unwrap-area-requires
unwrap-area-requires g c =
    let some = is_due c.args.job.now c.loop-at.due.items c.args.tree.now c.loop-at.at (omega (arith, c.loop-at-test.true, c.len-at-end.ensures)) c.loop-at.invariant.fits in
    c.pop.ensures.variant.1 (omega (arith, some, c.loop-at.due.ok))

pub put_shared_node-requires-clause-of_job : goal.put_shared_node-requires-clause-of_job
put_shared_node-requires-clause-of_job g c =
    (step_at c.args.job.now c.loop-at.due.items c.pop.new.self.items c.pop.result c.unwrap-area.result (given_of c.args.job.now c.loop-at.table) c.node-node.result.now c.args.tree.now c.loop-at.at
    _ c.loop-at.invariant.written c.loop-at.invariant.fits c.pop.ensures.items c.unwrap-area.ensures c.node-node.ensures c.loop-at.invariant.rest).next.of_job

pub put_shared_node-requires-clause-fits : goal.put_shared_node-requires-clause-fits
put_shared_node-requires-clause-fits g c =
    (step_at c.args.job.now c.loop-at.due.items c.pop.new.self.items c.pop.result c.unwrap-area.result (given_of c.args.job.now c.loop-at.table) c.node-node.result.now c.args.tree.now c.loop-at.at
    _ c.loop-at.invariant.written c.loop-at.invariant.fits c.pop.ensures.items c.unwrap-area.ensures c.node-node.ensures c.loop-at.invariant.rest).next.fits

pub returns-in_err-put_shared_node : goal.returns-in_err-put_shared_node
returns-in_err-put_shared_node g c = λ whole e.
    let step = step_at c.args.job.now c.loop-at.due.items c.pop.new.self.items c.pop.result c.unwrap-area.result (given_of c.args.job.now c.loop-at.table) c.node-node.result.now c.args.tree.now c.loop-at.at
    _ c.loop-at.invariant.written c.loop-at.invariant.fits c.pop.ensures.items c.unwrap-area.ensures c.node-node.ensures c.loop-at.invariant.rest in
    let stop = c.in_err-put_shared_node.field-0.0 in
    at_err (WriteGives (g.D.Desk.state c.args.desk.now) (g.D.Desk.state c.put_shared_node.new.desk) c.args.slot (lines_text (map item_line (items_of (shared c.args.job.now whole))))) _ stop
    c.from_residual-in_err-put_shared_node.ensures.1
    (halts (g.D.Desk.state c.args.desk.now) (g.D.Desk.state c.loop-at.desk) (g.D.Desk.state c.put_shared_node.new.desk) c.args.slot c.loop-at.invariant.written _ _ _ stop
    (sym (whole_text c.args.job.now c.args.tree.now whole e) ∙ step.text) c.loop-at.invariant.writing c.in_err-put_shared_node.ensures.writes)

pub add_halves-requires : goal.add_halves-requires
add_halves-requires g c =
    let step = step_at c.args.job.now c.loop-at.due.items c.pop.new.self.items c.pop.result c.unwrap-area.result (given_of c.args.job.now c.loop-at.table) c.node-node.result.now c.args.tree.now c.loop-at.at
    _ c.loop-at.invariant.written c.loop-at.invariant.fits c.pop.ensures.items c.unwrap-area.ensures c.node-node.ensures c.loop-at.invariant.rest in
    split_in c.args.job.now c.unwrap-area.result c.node-node.result.now step.next.of_job step.next.fits

pub returns-in_err-add_halves : goal.returns-in_err-add_halves
returns-in_err-add_halves g c = λ whole e.
    let step = step_at c.args.job.now c.loop-at.due.items c.pop.new.self.items c.pop.result c.unwrap-area.result (given_of c.args.job.now c.loop-at.table) c.node-node.result.now c.args.tree.now c.loop-at.at
    _ c.loop-at.invariant.written c.loop-at.invariant.fits c.pop.ensures.items c.unwrap-area.ensures c.node-node.ensures c.loop-at.invariant.rest in
    let here = more (g.D.Desk.state c.args.desk.now) (g.D.Desk.state c.loop-at.desk) (g.D.Desk.state c.put_shared_node.new.desk) c.args.slot c.loop-at.invariant.written _ _ refl
    c.loop-at.invariant.writing c.in_ok-put_shared_node.ensures.writes in
    at_err (WriteGives (g.D.Desk.state c.args.desk.now) (g.D.Desk.state c.put_shared_node.new.desk) c.args.slot (lines_text (map item_line (items_of (shared c.args.job.now whole))))) _ Memory
    c.from_residual-in_err-add_halves.ensures.1
    (stops (g.D.Desk.state c.args.desk.now) (g.D.Desk.state c.put_shared_node.new.desk) c.args.slot _ _ _
    (sym (whole_text c.args.job.now c.args.tree.now whole e) ∙ (step.text ∙ sym (append_assoc c.loop-at.invariant.written _ _))) here)

pub loop-at-preserved : goal.loop-at-preserved
loop-at-preserved g c =
    let job = c.args.job.now in
    let area = c.unwrap-area.result in
    let node = c.node-node.result.now in
    let old = given_of job c.loop-at.table in
    let new = given_of job c.put_shared_node.new.table in
    let inv = c.loop-at.invariant in
    let left = drop (c.loop-at.at + 1) c.args.tree.now in
    let step = step_at c.args.job.now c.loop-at.due.items c.pop.new.self.items c.pop.result c.unwrap-area.result (given_of c.args.job.now c.loop-at.table) c.node-node.result.now c.args.tree.now c.loop-at.at
    _ c.loop-at.invariant.written c.loop-at.invariant.fits c.pop.ensures.items c.unwrap-area.ensures c.node-node.ensures c.loop-at.invariant.rest in
    let due = pushed area node c.pop.new.self.items c.add_halves.new.due.items c.in_ok-add_halves.ensures in
    let piece = lines_text (map item_line (items_at job area old node)) in
    let given = c.in_ok-put_shared_node.ensures.given in
    let count = ap (λ (given : Given). given.count) given in
    record {
      fits = subst (λ (ds : List IntervalBox). FitsNodes job ds left) (sym due) step.next.others;
      table = c.in_ok-put_shared_node.ensures.table;
      few = omega (arith, inv.few, count, given_at-few job area old node, given_count job c.loop-at.table, given_count job c.put_shared_node.new.table);
      written = inv.written ++ piece;
      writing = more (g.D.Desk.state c.args.desk.now) (g.D.Desk.state c.loop-at.desk) (g.D.Desk.state c.put_shared_node.new.desk) c.args.slot inv.written piece _ refl inv.writing
          c.in_ok-put_shared_node.ensures.writes;
      rest = step.text ∙ (sym (append_assoc inv.written piece (nodes_text job (due_after area node (reverse c.pop.new.self.items)) (given_at job area old node) left))
          ∙ (ap (λ (ds : List IntervalBox). (inv.written ++ piece) ++ nodes_text job ds (given_at job area old node) left) (sym due)
          ∙ ap (λ (given : Given). (inv.written ++ piece) ++ nodes_text job (reverse c.add_halves.new.due.items) given left) (sym given)));
    }

pub returns : goal.returns
returns g c = λ whole e.
    let inv = c.loop-at.invariant in
    let none = ended_text c.args.job.now (reverse c.loop-at.due.items) (given_of c.args.job.now c.loop-at.table) c.args.tree.now c.loop-at.at (omega (arith, c.loop-at-test.false, c.len-at-end.ensures)) inv.fits in
    let whole_is : lines_text (map item_line (items_of (shared c.args.job.now whole))) ≡ inv.written =
    sym (whole_text c.args.job.now c.args.tree.now whole e) ∙ (inv.rest ∙ (ap (λ (t : Bytes). inv.written ++ t) none ∙ append-nil inv.written)) in
    subst (Puts (g.D.Desk.state c.args.desk.now) (g.D.Desk.state c.loop-at.desk) c.args.slot) (sym whole_is) inv.writing.puts
