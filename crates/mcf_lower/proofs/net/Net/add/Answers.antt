use Rattle.std.proofs.Common.{arith, rules}
use Rattle.std.proofs.lemmas.Int.{ints}
use Rattle.mcf_lower.proofs.Nets.{IsNetwork-push}
use Rattle.mcf_lower.proofs.net.Net.add.Goals as goal

pub invariant_of-self-2 : goal.invariant_of-self-2
invariant_of-self-2 c =
    rw c.in_ok-push.ensures.items
    (IsNetwork-push c.self.inside.nodes c.self.inside.arcs.items _ c.self.invariant
    (record { tail = search rules; head = search rules; bounds = omega (arith, ints); flow = omega (arith, ints); price = omega (arith, ints) })
    (search rules))
