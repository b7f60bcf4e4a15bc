use Rattle.std.proofs.Common.{rules, ◌≡◌, ◌∙◌}
use Rattle.tqd_instance.specs.declared.job.Job.{Job}
use Rattle.tqd_instance.proofs.Changes.{cut_facts, cut_of_parts, prices_of_suppliers, AreCut}
use Rattle.tqd_instance.proofs.job.Job.cut_prices.Goals as goal

pub cut-requires : goal.cut-requires
cut-requires c = record { share = c.requires.share; within = rw c.sellers.ensures (prices_of_suppliers c.args.self.now) }

pub of-requires : goal.of-requires
of-requires c =
    let old : Job = c.args.self.now in
    let needs : c.in_ok-needs.needs ≡ old.needs = search rules in
    let mosts : c.in_ok-mosts.mosts ≡ old.mosts = search rules in
    let are : AreCut c.args.i c.args.cut old.suppliers c.in_ok-suppliers.suppliers = search rules in
    cut_facts old c.args.i c.args.cut c.in_ok-needs.needs c.in_ok-mosts.mosts c.in_ok-suppliers.suppliers c.winners-least.result.0 c.winners-least.result.1
    needs mosts are c.winners-least.ensures.least c.winners-least.ensures.most

pub returns : goal.returns
returns c =
    let old : Job = c.args.self.now in
    let new : Job = c.of.result in
    let needs : new.needs ≡ old.needs = search rules in
    let mosts : new.mosts ≡ old.mosts = search rules in
    let sellers : new.suppliers ≡ c.in_ok-suppliers.suppliers = c.of.ensures.suppliers in
    let are : AreCut c.args.i c.args.cut old.suppliers c.in_ok-suppliers.suppliers = search rules in
    cut_of_parts c.args.i c.args.cut old new c.requires.supplier needs mosts (rw sellers are)
    (c.of.ensures.least_winners ∙ c.winners-least.ensures.least) (c.of.ensures.most_winners ∙ c.winners-least.ensures.most)
