use Rattle.std.proofs.Common.{Option, ap, sym, ◌∙◌, subst}
use Rattle.tqd_base.specs.World.{Bytes}
use Rattle.bound_tree.specs.declared.line.LineHead.{LineHead}
use Rattle.bound_tree.specs.LineHead.{prices_of}
use Rattle.bound_tree.specs.ReadLine.{read_line}
use Rattle.tree_checker.specs.Verdict.{PlanSoFar, Phase, Step, after_line}
use Rattle.tree_checker.specs.ByHead.{header_by_head, plan_by_head, buy_by_head, node_by_head}
use Rattle.tree_checker.specs.Judged.{Leads}
use Rattle.tree_checker.proofs.Heads.{header_heads, plan_heads, buy_heads, node_heads}
use Rattle.tree_checker.proofs.Dues.{header_due, plan_due, buy_due, node_due, same_prices}
use Rattle.tree_checker.proofs.judge.Judge.after_line.Goals as goal

pub returns-in-Header-clause-leads : goal.returns-in-Header-clause-leads
returns-in-Header-clause-leads c = λ phase bytes due keeps.
    let self = c.args.self.now in
    let after = c.after_header.new.self in
    let h = header_due self.job.now self.due self.plan self.boxes self.slots phase c.in-Header.is due in
    let read = header_heads self.job.now c.args.line (read_line bytes) ∙ ap (header_by_head c.args.line) (sym (c.head-head.ensures.value bytes keeps)) in
    subst (λ (p : Phase). Leads self.job.now after.plan after.boxes after.slots c.after_header.result (after_line self.job.now c.args.line p (read_line bytes))) (sym h.0)
    (subst (λ (s : Step). Leads self.job.now after.plan after.boxes after.slots c.after_header.result s) (sym read) (c.after_header.ensures.leads h.1 h.2 h.3))

pub returns-in-Plan-clause-leads : goal.returns-in-Plan-clause-leads
returns-in-Plan-clause-leads c = λ phase bytes due keeps.
    let self = c.args.self.now in
    let after = c.after_plan.new.self in
    let h = plan_due self.job.now self.due self.plan self.boxes self.slots phase c.in-Plan.is due in
    let read = plan_heads self.job.now c.args.line h.0 (read_line bytes) ∙ ap (plan_by_head self.job.now c.args.line h.0) (sym (c.head-head.ensures.value bytes keeps)) in
    subst (λ (p : Phase). Leads self.job.now after.plan after.boxes after.slots c.after_plan.result (after_line self.job.now c.args.line p (read_line bytes))) (sym h.1)
    (subst (λ (s : Step). Leads self.job.now after.plan after.boxes after.slots c.after_plan.result s) (sym read) (c.after_plan.ensures.leads h.0 h.2 h.3))

pub returns-in-Buy-clause-leads : goal.returns-in-Buy-clause-leads
returns-in-Buy-clause-leads c = λ phase bytes due keeps.
    let self = c.args.self.now in
    let after = c.after_buy.new.self in
    let h = buy_due self.job.now self.due self.plan self.boxes self.slots phase c.in-Buy.cost c.in-Buy.left c.in-Buy.next c.in-Buy.is due in
    let plan : PlanSoFar = record { cost = c.in-Buy.cost; left = c.in-Buy.left; next = c.in-Buy.next; bought = h.bought } in
    let read = buy_heads self.job.now c.args.line h.store plan (read_line bytes) ∙ ap (buy_by_head self.job.now c.args.line h.store plan) (sym (c.head-head.ensures.value bytes keeps)) in
    subst (λ (p : Phase). Leads self.job.now after.plan after.boxes after.slots c.after_buy.result (after_line self.job.now c.args.line p (read_line bytes))) (sym h.is)
    (subst (λ (s : Step). Leads self.job.now after.plan after.boxes after.slots c.after_buy.result s) (sym read) (c.after_buy.ensures.leads h.store h.bought h.units h.rows))

pub returns-in-Node-clause-leads : goal.returns-in-Node-clause-leads
returns-in-Node-clause-leads c = λ phase bytes due keeps.
    let self = c.args.self.now in
    let after = c.after_node.new.self in
    let best = c.in-Node.best in
    let head = c.head-head.result in
    let h = node_due self.job.now self.due self.plan self.boxes self.slots phase best c.in-Node.is due in
    let by = node_by_head self.job.now c.args.line h.0 best self.boxes in
    let read = node_heads self.job.now c.args.line h.0 best self.boxes (read_line bytes)
    ∙ ap (λ (h : Option LineHead). by h (prices_of bytes)) (sym (c.head-head.ensures.value bytes keeps))
    ∙ sym (same_prices self.job.now c.args.line h.0 best self.boxes head c.args.text.now bytes keeps c.head-head.ensures.long)
    ∙ ap (λ (b : Bytes). by head (prices_of b)) (sym c.bytes.ensures) in
    subst (λ (p : Phase). Leads self.job.now after.plan after.boxes after.slots c.after_node.result (after_line self.job.now c.args.line p (read_line bytes))) (sym h.1)
    (subst (λ (s : Step). Leads self.job.now after.plan after.boxes after.slots c.after_node.result s) (sym read) (c.after_node.ensures.leads h.0 h.2))
