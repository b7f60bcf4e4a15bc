use Rattle.std.proofs.Common.{refl, sym, subst, ◌∙◌}
use Rattle.tqd_instance.specs.declared.job.Job.{Job}
use Rattle.tqd_instance.specs.Plan.{units}
use Rattle.tqd_instance.specs.Standing.{Stands}
use Rattle.tree_checker.specs.Standing.{standing_of}
use Rattle.requote.proofs.Offering.{stands_as, offered, not_offered}
use Rattle.requote.proofs.replanting.offer.Goals as goal

pub returns-in-Feasible-clause-offers : goal.returns-in-Feasible-clause-offers
returns-in-Feasible-clause-offers c = λ x is.
    let book = c.args.book.now in
    let stands = subst (λ (job : Job). Stands job (units c.args.plan) c.standing.result) c.job.ensures c.standing.ensures in
    offered book.job book c.improve-answer.new.self c.args.plan x c.in-Feasible.cost c.improve-answer.result is
    (sym c.in-Feasible.is ∙ stands_as book.job c.args.plan x c.standing.result is stands) c.requires.none c.improve-answer.ensures.says

pub returns-in_default : goal.returns-in_default
returns-in_default c = record {
  offers = λ x is.
      let book = c.args.book.now in
      let stands = subst (λ (job : Job). Stands job (units c.args.plan) c.standing.result) c.job.ensures c.standing.ensures in
      let same = stands_as book.job c.args.plan x c.standing.result is stands in
      not_offered book.job book x (standing_of book.job x) (λ cost feasible. c.in_default.not-Feasible cost (same ∙ feasible));
  nodes = refl;
  job = refl;
}
