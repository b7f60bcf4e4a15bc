use Rattle.std.proofs.Common.{Option, rules, sym, subst}
use Rattle.bound_tree.specs.LineHead.{prices_of}
use Rattle.tree_checker.specs.declared.rejection.Why.{Why}
use Rattle.tree_checker.specs.Verdict.{in_slots, Step, after_leaf}
use Rattle.tree_checker.specs.Stack.{without_first}
use Rattle.tree_checker.specs.Judged.{Leads}
use Rattle.tree_checker.proofs.Nodes.{no_row}
use Rattle.tree_checker.proofs.judge.Judge.after_slot_node.Goals.{in_default-via-in-Some+in_default, in_default-via-in_default}
use Rattle.tree_checker.proofs.judge.Judge.after_slot_node.Goals as goal

pub returns-in_default-clause-leads : goal.returns-in_default-clause-leads
returns-in_default-clause-leads c = λ slots held.
    let self = c.args.self.now in
    let job = self.job.now in
    let after = c.after_leaf.new.self in
    let due = without_first self.boxes in
    subst (λ (s : Step). Leads job after.plan after.boxes after.slots c.after_leaf.result s)
    (sym (no_row job c.args.line slots c.args.best c.args.area.now due c.args.head (prices_of c.args.text.now) (λ n count is. elim c.in_default.branch [ in_default-via-in-Some+in_default w ↦ search rules | in_default-via-in_default w ↦ (let none = w.in_default.is in cc) ])))
    (subst (λ (f : Option Why). Leads job after.plan after.boxes after.slots c.after_leaf.result (after_leaf c.args.line (in_slots slots) c.args.best due f))
    (c.slot_leaf_fault-fault.ensures slots held) (c.after_leaf.ensures.leads (in_slots slots) (c.requires.in_use, held)))
