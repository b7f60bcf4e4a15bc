use Rattle.std.proofs.Common.{◌≡◌, ◌<◌, ◌≤◌, arith, ◌∙◌, ⊎_elim, ap, get_or}
use Rattle.std.proofs.lemmas.Bool.{cases_lt}
use Rattle.std.proofs.lemmas.Int.{ints}
use Rattle.flow_prices.proofs.Pricing.{old_element, new_element}
use Rattle.flow_prices.proofs.prices.lowered.Goals as goal

pub loop-number-preserved : goal.loop-number-preserved
loop-number-preserved c =
    let i = c.loop-number.invariant in
    let p = c.in_ok-push.ensures.items in
    let x = c.requires.small c.loop-number.number-index c.loop-number-test.true in
    let y = c.requires.small 0 c.requires.some in
    record {
      length = omega (arith, c.in_ok-push.ensures.len, i.length);
      base = omega (arith, ints);
      each = λ v l. ⊎_elim
          (λ (z : v < c.loop-number.number-index). old_element c.loop-number.lowered.items _ c.push.new.self.items v p (omega (arith, i.length)) ∙ i.each v z)
          (λ (z : c.loop-number.number-index ≤ v).
          let q : v ≡ c.loop-number.number-index = omega arith in
          let g = ap (λ k. get_or c.args.numbers.now k 0) q in
          let e = new_element c.loop-number.lowered.items _ c.push.new.self.items v p (omega (arith, i.length)) in
          omega (arith, ints, e))
          (cases_lt v c.loop-number.number-index);
    }
