use Rattle.std.proofs.Common.{Some, ap, ◌∙◌}
use Rattle.std.proofs.lemmas.Result.{IfOk-weaker}
use Rattle.tqd_instance.specs.declared.job.Job.{Job}
use Rattle.search_book.specs.BookState.{BookState, best_cost}
use Rattle.search_book.specs.Runs.{Leads}
use Rattle.tree_checker.specs.SlotRows.{store_of}
use Rattle.requote.specs.Graft.{tree_events}
use Rattle.requote.specs.Reading.{store_in, left_events}
use Rattle.requote.proofs.Leading.{after_root}
use Rattle.requote.proofs.graft.Grafter.graft.Goals as goal

pub returns : goal.returns
returns c =
    let book = c.args.book in
    let lines = c.args.lines in
    let store = store_of book.job c.args.slots in
    let new = c.take_root-root.new.self in
    let node = c.take_root-root.result in
    let taken = c.take_root-root.ensures in
    IfOk-weaker c.read_all.result (Leads new.book (left_events new (Some node) lines)) (Leads book (tree_events book.job (best_cost book) store lines))
    (λ (done : BookState) leads. after_root book new.book done store (store_in new) node new.due lines c.requires.root.count taken.happens taken.node taken.due
    (ap (λ (job : Job). store_of job new.slots) (ap (λ (s : BookState). s.job) taken.happens.1) ∙ ap (store_of book.job) taken.slots) leads)
    c.read_all.ensures
