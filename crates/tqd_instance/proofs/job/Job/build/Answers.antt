use Rattle.std.proofs.Common.{rules, ◌≡◌, ◌∙◌}
use Rattle.tqd_instance.proofs.JobBuilds.{job_facts}
use Rattle.tqd_instance.proofs.job.Job.build.Goals as goal

pub of-requires-2 : goal.of-requires-2
of-requires-2 c =
    let parts = c.args.parts.now in
    let needs_is : c.of-needs.result ≡ parts.needs = search rules in
    let suppliers_is : c.of.result ≡ c.in-Ok.suppliers.items = c.of.ensures in
    rw suppliers_is
    (job_facts parts c.of-needs.result c.in_ok-mosts.mosts c.in-Ok.suppliers.items c.winners-least.result.0 c.winners-least.result.1 c.requires
    (search rules) needs_is c.in_ok-mosts.ensures c.in-Ok.ensures.count c.in-Ok.ensures.built c.winners-least.ensures.least c.winners-least.ensures.most
    c.if-most-least.false)

pub returns-clause-job : goal.returns-clause-job
returns-clause-job c =
    let parts = c.args.parts.now in
    let needs_is : c.of-needs.result ≡ parts.needs = search rules in
    let suppliers_is : c.of-2.result.suppliers ≡ c.in-Ok.suppliers.items = c.of-2.ensures.suppliers ∙ c.of.ensures in
    record {
      needs = c.of-2.ensures.needs ∙ needs_is;
      mosts = c.of-2.ensures.mosts ∙ c.in_ok-mosts.ensures;
      count = rw suppliers_is c.in-Ok.ensures.count;
      suppliers = λ i below. rw suppliers_is (c.in-Ok.ensures.built i below).described;
      least_winners = c.of-2.ensures.least_winners ∙ c.winners-least.ensures.least;
      most_winners = c.of-2.ensures.most_winners ∙ c.winners-least.ensures.most;
    }
