use Rattle.std.proofs.Common.{rules, ◌≡◌, ◌∙◌}
use Rattle.tqd_instance.specs.declared.job.Job.{Job}
use Rattle.tqd_instance.proofs.Changes.{most_winners_of_parts}
use Rattle.tqd_instance.proofs.job.Job.with_most_winners.Goals as goal

pub returns : goal.returns
returns c =
    let old : Job = c.args.self.now in
    let new : Job = c.of.result in
    let needs : new.needs ≡ old.needs = search rules in
    let mosts : new.mosts ≡ old.mosts = search rules in
    let sellers : new.suppliers ≡ old.suppliers = search rules in
    most_winners_of_parts c.args.most old new needs mosts sellers (c.of.ensures.least_winners ∙ c.winners-least.ensures.least) c.of.ensures.most_winners
