use Rattle.std.proofs.Common.{◌≡◌, ◌<◌, ◌≤◌, ◌+◌, ◌-◌, ℕ, ap, ◌∙◌, arith}
use Rattle.tree_checker.specs.Verdict.{nothing_bought}
use Rattle.requote.specs.Head.{Buying, after_buys, no_buys}
use Rattle.requote.proofs.BuyLines.{one_left, all_bought}
use Rattle.requote.proofs.head.read_buys.Goals as goal

pub loop-init : goal.loop-init
loop-init c = record {
  sized = record { suppliers = c.in_ok-plan.ensures.suppliers ∙ c.suppliers.ensures.value; goods = c.in_ok-plan.ensures.goods ∙ c.goods.ensures.value };
  bought = nothing_bought;
  units = λ i k below. c.in_ok-plan.ensures.nothing i k;
  rest = λ store. ap (λ (n : ℕ). after_buys c.args.job.now store n no_buys c.args.lines.now) (let all : c.args.count ≡ c.args.count - 0 = omega arith in all);
}

pub returns-in-None : goal.returns-in-None
returns-in-None c = λ store.
    let all = c.loop.invariant in
    let buying : Buying = record { next = c.loop.next; bought = all.bought } in
    let below : c.loop.counter < c.args.count = omega (arith, c.loop-test.true) in
    all.rest store ∙ (one_left c.args.job.now c.args.count c.loop.counter buying c.loop.lines store below
    ∙ c.in-None.ensures.buys all.bought all.units store (c.args.count - (c.loop.counter + 1)))

pub loop-preserved : goal.loop-preserved
loop-preserved c =
    let all = c.loop.invariant in
    let buying : Buying = record { next = c.loop.next; bought = all.bought } in
    let below : c.loop.counter < c.args.count = omega (arith, c.loop-test.true) in
    let one = c.in-Some.ensures.buys all.bought all.units in
    record {
      sized = c.read_buy.ensures.sized;
      bought = one.0;
      units = one.1;
      rest = λ store. all.rest store ∙ (one_left c.args.job.now c.args.count c.loop.counter buying c.loop.lines store below
          ∙ one.2 store (c.args.count - (c.loop.counter + 1)));
    }

pub returns : goal.returns
returns c = λ store.
    let all = c.loop.invariant in
    let buying : Buying = record { next = c.loop.next; bought = all.bought } in
    let past : c.args.count ≤ c.loop.counter = omega (arith, c.loop-test.false) in (
      all.bought,
      record { sized = all.sized; units = all.units },
      all.rest store ∙ all_bought c.args.job.now c.args.count c.loop.counter buying c.loop.lines store past,
    )
