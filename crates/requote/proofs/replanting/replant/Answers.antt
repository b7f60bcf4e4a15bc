use Rattle.std.proofs.Common.{◌≡◌, ◌∙◌}
use Rattle.std.proofs.lemmas.Result.{IfOk-weaker}
use Rattle.search_book.specs.BookState.{BookState, best_cost}
use Rattle.search_book.specs.Runs.{Leads}
use Rattle.tree_checker.specs.SlotRows.{store_of}
use Rattle.requote.specs.Graft.{IsGraft, tree_events}
use Rattle.requote.proofs.Planting.{opens_at_root, still_at_root, leads_job, graft_wrong, graft_no_plan, graft_plan}
use Rattle.requote.proofs.replanting.replant.Goals as goal

pub returns-in-Wrong-clause-graft : goal.returns-in-Wrong-clause-graft
returns-in-Wrong-clause-graft c =
    let job = c.args.job.now in
    graft_wrong job c.args.old.now c.of-lines.result c.read_head.new.lines c.in_ok-book.book (store_of job c.read_head.new.slots) c.in_ok-read_head.field-0
    c.in_ok-book.ensures.opening c.of-lines.ensures c.in_ok-read_head.ensures.head c.in-Wrong.is

pub graft-requires-clause-root : goal.graft-requires-clause-root
graft-requires-clause-root c = opens_at_root c.args.job.now c.in_ok-book.book c.in_ok-book.ensures.opening

pub returns-in-NoPlan-clause-graft : goal.returns-in-NoPlan-clause-graft
returns-in-NoPlan-clause-graft c =
    let job = c.args.job.now in
    let book = c.in_ok-book.book in
    let slots = c.read_head.new.slots in
    let left = c.read_head.new.lines in
    IfOk-weaker c.graft.result (Leads book (tree_events book.job (best_cost book) (store_of book.job slots) left)) (IsGraft job c.args.old.now)
    (λ (done : BookState) leads. graft_no_plan job c.args.old.now c.of-lines.result left book done slots c.in_ok-read_head.field-0
    c.in_ok-book.ensures.opening c.of-lines.ensures c.in_ok-read_head.ensures.head c.in-NoPlan.is leads) c.graft.ensures

pub returns-in-NoPlan-clause-job : goal.returns-in-NoPlan-clause-job
returns-in-NoPlan-clause-job c =
    let job = c.args.job.now in
    let book = c.in_ok-book.book in
    let events = tree_events book.job (best_cost book) (store_of book.job c.read_head.new.slots) c.read_head.new.lines in
    IfOk-weaker c.graft.result (Leads book events) (λ (done : BookState). done.job ≡ job)
    (λ (done : BookState) leads. leads_job book done events leads ∙ c.in_ok-book.ensures.opening.job_is) c.graft.ensures

pub graft-requires-in-Plan-clause-root : goal.graft-requires-in-Plan-clause-root
graft-requires-in-Plan-clause-root c =
    still_at_root c.in_ok-book.book c.offer.new.book c.offer.ensures.nodes c.offer.ensures.job (opens_at_root c.args.job.now c.in_ok-book.book c.in_ok-book.ensures.opening)

pub returns-clause-graft : goal.returns-clause-graft
returns-clause-graft c =
    let job = c.args.job.now in
    let book = c.offer.new.book in
    let slots = c.read_head.new.slots in
    let left = c.read_head.new.lines in
    IfOk-weaker c.graft-in-Plan.result (Leads book (tree_events book.job (best_cost book) (store_of book.job slots) left)) (IsGraft job c.args.old.now)
    (λ (done : BookState) leads. graft_plan job c.args.old.now c.of-lines.result left c.in_ok-book.book book done slots c.in_ok-read_head.field-0 c.in-Plan.plan
    c.in_ok-book.ensures.opening c.of-lines.ensures c.in_ok-read_head.ensures.head c.in-Plan.is c.offer.ensures.offers c.offer.ensures.job leads) c.graft-in-Plan.ensures

pub returns-clause-job : goal.returns-clause-job
returns-clause-job c =
    let job = c.args.job.now in
    let book = c.offer.new.book in
    let events = tree_events book.job (best_cost book) (store_of book.job c.read_head.new.slots) c.read_head.new.lines in
    IfOk-weaker c.graft-in-Plan.result (Leads book events) (λ (done : BookState). done.job ≡ job)
    (λ (done : BookState) leads. leads_job book done events leads ∙ (c.offer.ensures.job ∙ c.in_ok-book.ensures.opening.job_is)) c.graft-in-Plan.ensures
