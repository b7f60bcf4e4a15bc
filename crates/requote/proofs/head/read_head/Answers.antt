use Rattle.std.proofs.Common.{Option, Some, refl, sym, ap, subst, ◌∙◌}
use Rattle.std.specs.Result.{IfOk}
use Rattle.bound_tree.specs.declared.line.LineHead.TheVariants.{Header, Header2}
use Rattle.bound_tree.specs.SlotTree.{no_rows}
use Rattle.tree_checker.specs.Verdict.{RowStore, in_leaves, in_slots}
use Rattle.requote.specs.Head.{OldHead, head_in}
use Rattle.requote.specs.Reading.{ReadsHead}
use Rattle.requote.proofs.HeadLines.{store_unused, store_used, head_after}
use Rattle.requote.proofs.head.read_head.Goals as goal

pub returns-in-Some-Header-clause-head : goal.returns-in-Some-Header-clause-head
returns-in-Some-Header-clause-head c =
    let job = c.args.job.now in
    let read = sym c.line_head.ensures ∙ (c.in-Some-Header.is ∙ ap Some c.in-Some-Header.field-0-is) in
    let left = c.read_plan.new.lines in
    subst (λ (store : RowStore). IfOk c.read_plan.result (ReadsHead job store left (head_in job c.args.lines.now))) (sym (store_unused job c.args.slots.now c.requires.unused))
    (subst (λ (head : Option OldHead). IfOk c.read_plan.result (ReadsHead job in_leaves left head))
    (sym (head_after job c.args.lines.now c.next.new.self c.in-Some.header.now Header in_leaves c.in-Some.ensures read refl)) (c.read_plan.ensures in_leaves))

pub returns-in-Some-Header2-clause-head : goal.returns-in-Some-Header2-clause-head
returns-in-Some-Header2-clause-head c =
    let job = c.args.job.now in
    let read = sym c.line_head.ensures ∙ (c.in-Some-Header2.is ∙ ap Some c.in-Some-Header2.field-0-is) in
    let plan = c.read_plan-in-Some-Header2 in
    let slots = c.take_into_use.new.self in
    subst (λ (store : RowStore). IfOk plan.result (ReadsHead job store plan.new.lines (head_in job c.args.lines.now)))
    (sym (store_used job c.args.slots.now slots c.take_into_use.ensures.used c.take_into_use.ensures.rows c.requires.none))
    (subst (λ (head : Option OldHead). IfOk plan.result (ReadsHead job (in_slots no_rows) plan.new.lines head))
    (sym (head_after job c.args.lines.now c.next.new.self c.in-Some.header.now Header2 (in_slots no_rows) c.in-Some.ensures read refl)) (plan.ensures (in_slots no_rows)))
