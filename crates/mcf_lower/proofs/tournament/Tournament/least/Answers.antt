use Rattle.std.proofs.Common.{◌≡◌, ◌+◌, ◌-◌, get_or, ap, arith}
use Rattle.mcf_lower.proofs.Matches.{top_least}
use Rattle.mcf_lower.proofs.tournament.Tournament.least.Goals as goal

pub returns-clause-least : goal.returns-clause-least
returns-clause-least c = λ v l.
    let t = c.args.self.now in
    let i : t.places + (c.loop-i.i - t.places) ≡ c.loop-i.i = omega arith in
    let q = ap (λ x. get_or t.keys.items x 0) i in
    omega (arith, q, c.loop-i.invariant.top, top_least t.places t.keys.items c.requires.tournament (t.places + v) (omega arith) (omega arith))
