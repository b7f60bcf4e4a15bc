use Rattle.std.proofs.Common.{◌<◌, ◌≤◌, arith, ⊎_elim}
use Rattle.std.proofs.lemmas.Bool.{cases_lt}
use Rattle.std.proofs.lemmas.Int.{ints}
use Rattle.flow_prices.proofs.Pricing.{old_element, new_element}
use Rattle.flow_bench.proofs.least.start_of.Goals as goal

pub loop-n-preserved : goal.loop-n-preserved
loop-n-preserved c =
    let i = c.loop-n.invariant in
    let p = c.in_ok-push.ensures.items in
    record {
      length = omega (arith, c.in_ok-push.ensures.len, i.length);
      least = λ v l. ⊎_elim
          (λ (z : v < c.loop-n.n). rw (old_element c.loop-n.start.items _ c.push.new.self.items v p (omega (arith, i.length))) (i.least v z))
          (λ (z : c.loop-n.n ≤ v).
          let e = new_element c.loop-n.start.items _ c.push.new.self.items v p (omega (arith, i.length)) in
          omega (arith, ints, e, c.clamp.ensures.lower_bound, c.clamp.ensures.upper_bound))
          (cases_lt v c.loop-n.n);
      most = λ v l. ⊎_elim
          (λ (z : v < c.loop-n.n). rw (old_element c.loop-n.start.items _ c.push.new.self.items v p (omega (arith, i.length))) (i.most v z))
          (λ (z : c.loop-n.n ≤ v).
          let e = new_element c.loop-n.start.items _ c.push.new.self.items v p (omega (arith, i.length)) in
          omega (arith, ints, e, c.clamp.ensures.lower_bound, c.clamp.ensures.upper_bound))
          (cases_lt v c.loop-n.n);
    }
