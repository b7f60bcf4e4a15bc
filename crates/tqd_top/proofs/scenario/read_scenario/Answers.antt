-- The terms, and then the job.
use Rattle.std.proofs.lemmas.Result.{err_from_is_err_and}
use Rattle.std.specs.Option.{option_copied}
use Rattle.tqd_top.specs.Scenarios.{ScenarioJobGives, ScenarioTermsGive}
use Rattle.tqd_top.proofs.Readings.{first_stops, then_answers}
use Rattle.tqd_top.proofs.ScenarioFacts.{scenario_facts}
use Rattle.tqd_top.proofs.scenario.read_scenario.Goals as goal

pub scenario_job-requires-clause-book : goal.scenario_job-requires-clause-book
scenario_job-requires-clause-book g c = scenario_facts _ _ _ _ (option_copied c.args.terms) c.in_ok-book.book c.requires c.in_ok-book.ensures.1.states

pub returns-in_err-book : goal.returns-in_err-book
returns-in_err-book g c =
    let a = g.D.Desk.absent_is_empty in
    let old = g.D.Desk.state c.args.desk.now in
    let new = g.D.Desk.state c.read_scenario_terms.new.desk in
    let p = err_from_is_err_and c.from_residual.result c.from_residual.ensures.1 in
    rw (p.1, p.2) (first_stops (ScenarioTermsGive a old.world c.args.kept.now c.args.at (option_copied c.args.terms)) (ScenarioJobGives c.args.kept.now c.args.at) _ _ old new _
    (λ file fails. fails) c.in_err-book.ensures)

pub returns : goal.returns
returns g c =
    let a = g.D.Desk.absent_is_empty in
    let old = g.D.Desk.state c.args.desk.now in
    let new = g.D.Desk.state c.read_scenario_terms.new.desk in
    let book = c.in_ok-book.ensures in
    then_answers (ScenarioTermsGive a old.world c.args.kept.now c.args.at (option_copied c.args.terms)) (ScenarioJobGives c.args.kept.now c.args.at) _ old new c.in_ok-book.book
    c.scenario_job.result book.0 book.1 c.scenario_job.ensures
