use Rattle.std.proofs.Common.{◌+◌, subst, arith}
use Rattle.mcf_lower.specs.Answers.{IsCutSet}
use Rattle.flow_prices.specs.Prices.{IsPriced}
use Rattle.flow_prices.specs.Answers.{IsAnswer}
use Rattle.box_bound.proofs.NumberRows.{cut_is}
use Rattle.box_bound.proofs.Answering.{priced_numbers, units_within, is_flow, is_empty}
use Rattle.box_bound.proofs.answer.answer_of.Goals as goal

pub plan_of-requires-clause-within : goal.plan_of-requires-clause-within
plan_of-requires-clause-within c =
    let p : IsPriced c.args.net.now c.in-Flow.flow c.in-Flow.numbers = subst (IsAnswer c.args.net.now) c.in-Flow.is c.requires.priced in
    units_within c.args.job.now c.args.area.now c.args.net.now c.in-Flow.flow c.requires.net p.is_flow

pub row_of-requires-clause-numbers : goal.row_of-requires-clause-numbers
row_of-requires-clause-numbers c =
    let p : IsPriced c.args.net.now c.in-Flow.flow c.in-Flow.numbers = subst (IsAnswer c.args.net.now) c.in-Flow.is c.requires.priced in
    priced_numbers c.args.job.now c.args.area.now c.args.net.now c.in-Flow.flow c.in-Flow.numbers c.requires.network c.requires.net p

pub returns-in_ok-row-in-Flow : goal.returns-in_ok-row-in-Flow
returns-in_ok-row-in-Flow c =
    let p : IsPriced c.args.net.now c.in-Flow.flow c.in-Flow.numbers = subst (IsAnswer c.args.net.now) c.in-Flow.is c.requires.priced in
    is_flow c.args.job.now c.args.area.now c.requires.of_job c.args.net.now c.requires.network c.requires.net c.in-Flow.flow c.in-Flow.numbers p
    c.in_ok-plan-in-Flow.plan c.in_ok-plan-in-Flow.ensures.size c.in_ok-plan-in-Flow.ensures.units (c.flow_cost.result + c.from.result)
    (omega (arith, c.flow_cost.ensures.value, c.from.ensures, c.sure_fees.ensures.value)) c.in_ok-row-in-Flow.row c.in_ok-row-in-Flow.ensures

pub returns-in_ok-row_of-in-Cut : goal.returns-in_ok-row_of-in-Cut
returns-in_ok-row_of-in-Cut c =
    let s : IsCutSet c.args.net.now c.in-Cut.set = subst (IsAnswer c.args.net.now) c.in-Cut.is c.requires.priced in
    let numbers = cut_is c.args.job.now c.in-Cut.set c.in_ok-numbers-in-Cut.numbers c.in_ok-numbers-in-Cut.ensures.len c.in_ok-numbers-in-Cut.ensures.each in
    is_empty c.args.job.now c.args.area.now c.requires.of_job c.args.net.now c.requires.network c.requires.net c.in-Cut.set s
    c.in_ok-numbers-in-Cut.numbers numbers c.in_ok-numbers-in-Cut.ensures.each c.in_ok-row_of-in-Cut.field-0 c.in_ok-row_of-in-Cut.ensures
