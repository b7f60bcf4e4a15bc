use Rattle.std.proofs.Common.{arith, subst}
use Rattle.tqd_instance.specs.declared.job.Job.{Job}
use Rattle.search_run.specs.Opened.{IsLaterThanOpening}
use Rattle.search_run.proofs.Openings.{later_than_opening}
use Rattle.search_run.proofs.search.is_later_than_opening.Goals as goal

pub returns : goal.returns
returns c =
    subst (λ (job : Job). IsLaterThanOpening job c.args.book.now) c.requires
    (later_than_opening c.args.book.now (omega (arith, c.nodes-count.ensures.count, c.nodes-count.ensures.some)) c.nodes-count.ensures.root)
