use Rattle.std.proofs.Common.{◌≤◌, ◌∙◌, Global, refl, sym, ap, subst}
use Rattle.counted_deque.specs.Counted.{pass_number, pass_view}
use Rattle.steal_pool.specs.declared.account.Account.{Account}
use Rattle.steal_pool.specs.Seen.{PassSeen, ThiefSeen}
use Rattle.steal_pool.proofs.Moves.{takes}
use Rattle.steal_pool.proofs.thief.Thief.steal.Goals as goal

pub steal-requires-clause-pass : goal.steal-requires-clause-pass
steal-requires-clause-pass g c =
    let of = c.loop.invariant.of in
    let own = ap (λ (p : PassSeen). p.lane) c.pass.view_is ∙ (c.requires ∙ sym (ap (λ (t : ThiefSeen). t.lane) c.self.view_is)) in
    (of.0 ∙ own, refl {A = Global}, of.2, of.3)

pub steal-requires-clause-takes : goal.steal-requires-clause-takes
steal-requires-clause-takes g c =
    let token = c.loop.pass-inside.token in
    takes (pass_number token) (pass_view token) (λ _. subst (λ (a : Account). 1 ≤ a.parts) (sym c.loop.invariant.known) c.pass.invariant.1.some_part)
