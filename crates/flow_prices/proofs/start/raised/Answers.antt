use Rattle.std.proofs.Common.{◌<◌, ◌≤◌, arith, ⊎_elim}
use Rattle.std.proofs.lemmas.Bool.{cases_lt}
use Rattle.std.proofs.lemmas.Int.{ints}
use Rattle.flow_prices.proofs.Pricing.{old_number, new_number}
use Rattle.flow_prices.proofs.start.raised.Goals as goal

pub loop-n-preserved : goal.loop-n-preserved
loop-n-preserved c =
    let i = c.loop-n.invariant in
    let p = c.in_ok-push.ensures.items in
    record {
      length = omega (arith, c.in_ok-push.ensures.len, i.length);
      most = λ v l. ⊎_elim
          (λ (z : v < c.loop-n.n). omega (arith, old_number c.loop-n.numbers.items _ c.push.new.self.items v p (omega (arith, i.length)), i.most v z))
          (λ (z : c.loop-n.n ≤ v).
          let low = c.requires.least c.loop-n.n (omega (arith, c.nodes-n-end.ensures.is)) in
          let high = c.requires.most c.loop-n.n (omega (arith, c.nodes-n-end.ensures.is)) in
          let e = new_number c.loop-n.numbers.items _ c.push.new.self.items v p (omega (arith, i.length)) in
          omega (arith, ints, e, c.get.ensures))
          (cases_lt v c.loop-n.n);
    }
