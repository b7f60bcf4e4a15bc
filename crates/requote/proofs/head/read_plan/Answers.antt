use Rattle.std.proofs.Common.{◌≤◌, ◌*◌, ℕ, Option, Some, sym, ap, subst, ◌∙◌}
use Rattle.std.specs.Result.{IfOk}
use Rattle.std.proofs.lemmas.Bool.{le-leb}
use Rattle.tqd_instance.specs.Job.{goods, suppliers}
use Rattle.requote.specs.Head.{OldHead}
use Rattle.requote.specs.Reading.{ReadsHead}
use Rattle.requote.proofs.BuyLines.{plan_of_buys}
use Rattle.requote.proofs.head.read_plan.Goals as goal

pub returns-then-count-suppliers : goal.returns-then-count-suppliers
returns-then-count-suppliers c = λ store.
    let job = c.args.job.now in
    let plan = c.in-Some-Plan in
    let places = ap (λ (n : ℕ). n * c.goods.result) c.suppliers.ensures.value ∙ ap (λ (n : ℕ). suppliers job * n) c.goods.ensures.value in
    let few = subst (λ (n : ℕ). plan.count ≤ n) places c.if-count-suppliers.true in
    let head = sym c.line_head.ensures ∙ (plan.is ∙ ap Some plan.field-0-is) in
    subst (λ (head : Option OldHead). IfOk c.read_buys.result (ReadsHead job store c.read_buys.new.lines head))
    (sym (plan_of_buys job c.args.lines.now c.next.new.self c.in-Some.line.now plan.field-0-0 plan.count store c.in-Some.ensures head (le-leb plan.count (suppliers job * goods job) few)))
    (c.read_buys.ensures store)
