use Rattle.std.proofs.Common.{◌≤◌, ◌+◌, true, List, ◌∷◌, length, refl, ap, sym, subst, ◌∙◌, arith}
use Rattle.tqd_instance.specs.declared.job.Job.{Job}
use Rattle.interval_box.specs.declared.boxes.IntervalBox.{IntervalBox}
use Rattle.interval_box.specs.Halves.{low_half, high_half}
use Rattle.search_book.specs.declared.node.Node.{Node}
use Rattle.search_book.specs.Nodes.{area_of}
use Rattle.search_book.specs.BookState.{BookState}
use Rattle.search_book.specs.Answers.{IsTakenAt}
use Rattle.search_book.specs.Runs.{Leads}
use Rattle.tree_checker.specs.SlotRows.{store_of}
use Rattle.requote.specs.declared.graft.DueNode.{DueNode}
use Rattle.requote.specs.Reading.{AreOpen}
use Rattle.requote.proofs.Leading.{rest_of, after_split}
use Rattle.requote.proofs.OpenNodes.{all_known, open_divided, open_more, node_of, same_node}
use Rattle.requote.proofs.graft.Grafter.split.Goals as goal

pub returns-clause-at : goal.returns-clause-at
returns-clause-at c =
    let self = c.args.self.now in
    let book = c.split.new.self in
    let split = c.in_ok-low.ensures in
    let high = c.due_node-high_node.result in
    let past : length self.book.nodes ≤ c.in_ok-low.high = omega (arith, split.high) in
    let still = subst (λ (nodes : List Node). AreOpen nodes self.due) (sym (ap (λ (s : BookState). s.nodes) split.happens.2))
    (open_divided self.book c.args.node.number c.args.supplier c.args.at true self.due c.requires.at.taken.taken c.requires.at.open_ones) in
    let more = open_more book.nodes (node_of c.in_ok-low.high (area_of book.nodes c.in_ok-low.high)) self.due split.other refl
    (all_known self.book.nodes self.due c.in_ok-low.high past c.requires.at.open_ones) still in
    record {
      taken = subst (λ (node : DueNode). IsTakenAt book node.number node.area) (sym c.due_node.ensures) (record { taken = split.kept; area_is = refl });
      open_ones = subst (λ (due : List DueNode). AreOpen book.nodes due) (sym c.in_ok-push.ensures)
          (subst (λ (node : DueNode). AreOpen book.nodes (node ∷ self.due)) (sym c.due_node-high_node.ensures) more);
    }

pub returns-clause-follows : goal.returns-clause-follows
returns-clause-follows c = λ lines end leads.
    let self = c.args.self.now in
    let book = c.split.new.self in
    let split = c.in_ok-low.ensures in
    let node = c.args.node in
    let area = c.requires.at.taken.area_is in
    let low = c.due_node.ensures ∙ same_node c.in_ok-low.low (length self.book.nodes) (area_of book.nodes c.in_ok-low.low) (low_half node.area c.args.supplier c.args.at)
    split.low (split.low_area ∙ ap (λ (a : IntervalBox). low_half a c.args.supplier c.args.at) area) in
    let high = c.due_node-high_node.ensures ∙ same_node c.in_ok-low.high (length self.book.nodes + 1) (area_of book.nodes c.in_ok-low.high) (high_half node.area c.args.supplier c.args.at)
    split.high (split.high_area ∙ ap (λ (a : IntervalBox). high_half a c.args.supplier c.args.at) area) in
    let filled = store_of book.job self.slots in
    after_split self.book book end (store_of self.book.job self.slots) filled node c.due_node.result c.due_node-high_node.result c.args.supplier c.args.at self.due lines
    split.happens low high (ap (λ (job : Job). store_of job self.slots) (ap (λ (s : BookState). s.job) split.happens.2))
    (subst (λ (due : List DueNode). Leads book (rest_of book filled lines c.due_node.result due) end) c.in_ok-push.ensures leads)
