use Rattle.std.proofs.Common.{ℕ, ◌+◌, Option, Some, sym, ap, subst, ◌∙◌}
use Rattle.bound_tree.specs.declared.line.LineHead.{LineHead}
use Rattle.tree_checker.specs.Verdict.{with_units}
use Rattle.requote.specs.Head.{Buying, after_buy}
use Rattle.requote.specs.Reading.{BuysOne}
use Rattle.requote.proofs.BuyLines.{units_set, no_buy_left, wrong_buy, right_buy, other_line, buy_out_of_place, buy_in_place}
use Rattle.requote.proofs.head.read_buy.Goals as goal

pub returns-in_err-next-clause-buys : goal.returns-in_err-next-clause-buys
returns-in_err-next-clause-buys c = λ x has.
    let buying : Buying = record { next = c.args.next; bought = x } in
    subst (λ (answer : Option ℕ). BuysOne c.args.job.now buying c.args.lines.now c.args.plan.now c.next.new.self answer) (sym c.from_residual.ensures)
    (no_buy_left c.args.job.now buying c.args.lines.now c.in_err-next.ensures.0)

pub returns-in_err-head-clause-buys : goal.returns-in_err-head-clause-buys
returns-in_err-head-clause-buys c = λ x has.
    let job = c.args.job.now in
    let buying : Buying = record { next = c.args.next; bought = x } in
    let line = c.in_ok-next.field-0.now in
    subst (λ (answer : Option ℕ). BuysOne job buying c.args.lines.now c.args.plan.now c.next.new.self answer) (sym c.from_residual-in_err-head.ensures)
    (wrong_buy job buying c.args.lines.now line c.next.new.self c.in_ok-next.ensures (ap (after_buy job buying) (sym c.in_err-head.ensures)))

pub returns-in_default : goal.returns-in_default
returns-in_default c = record {
  sized = c.requires;
  buys = λ x has.
      let job = c.args.job.now in
      let buying : Buying = record { next = c.args.next; bought = x } in
      let line = c.in_ok-next.field-0.now in
      wrong_buy job buying c.args.lines.now line c.next.new.self c.in_ok-next.ensures
      (ap (after_buy job buying) (sym c.in_ok-head.ensures) ∙ other_line job buying c.in_ok-head.head c.in_default.not-Buy);
}

pub returns-in_err-place-clause-buys : goal.returns-in_err-place-clause-buys
returns-in_err-place-clause-buys c = λ x has.
    let job = c.args.job.now in
    let buying : Buying = record { next = c.args.next; bought = x } in
    let buy = c.in-Buy in
    subst (λ (answer : Option ℕ). BuysOne job buying c.args.lines.now c.args.plan.now c.next.new.self answer) (sym c.from_residual-in_err-place.ensures)
    (wrong_buy job buying c.args.lines.now c.in_ok-next.field-0.now c.next.new.self c.in_ok-next.ensures
    (ap (after_buy job buying) (sym c.in_ok-head.ensures)
    ∙ (ap (λ (head : LineHead). after_buy job buying (Some head)) buy.is
    ∙ buy_out_of_place job buying buy.supplier buy.good buy.units c.in_err-place.ensures.place)))

pub returns-clause-buys : goal.returns-clause-buys
returns-clause-buys c = λ x has.
    let job = c.args.job.now in
    let buying : Buying = record { next = c.args.next; bought = x } in
    let buy = c.in-Buy in
    let place = c.in_ok-place.ensures.place in
    let more : Buying = record { next = c.in_ok-place.place + 1; bought = with_units x buy.supplier buy.good buy.units } in (
      with_units x buy.supplier buy.good buy.units,
      units_set job c.args.plan.now c.set.new.self x buy.supplier buy.good buy.units c.requires c.set.ensures.changed c.set.ensures.others has,
      right_buy job buying more c.args.lines.now c.in_ok-next.field-0.now c.next.new.self c.in_ok-next.ensures
          (ap (after_buy job buying) (sym c.in_ok-head.ensures)
          ∙ (ap (λ (head : LineHead). after_buy job buying (Some head)) buy.is
          ∙ buy_in_place job c.args.next buy.supplier buy.good buy.units c.in_ok-place.place x place.0 place.1)),
    )
