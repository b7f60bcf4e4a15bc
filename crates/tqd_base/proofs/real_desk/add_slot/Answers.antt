use Rattle.std.proofs.Common.{ℕ, ◌≡◌, ◌++◌, ◌∷◌, List, ◌∙◌, None, [], length, ap, subst, arith}
use Rattle.tqd_base.specs.RealState.{real_world}
use Rattle.tqd_base.proofs.RealLemmas.{real_push, real_last}
use Rattle.tqd_base.specs.declared.real_slot.RealSlot.{RealSlot}
use Rattle.tqd_base.specs.declared.real_slot.RealSlot.TheVariants.{Closed}
use Rattle.tqd_base.proofs.real_desk.add_slot.Goals as goal

pub returns-in_err-push-clause-world : goal.returns-in_err-push-clause-world
returns-in_err-push-clause-world g c = ap (λ (l : List (RealSlot g.row.F.Denot)). real_world l) c.in_err-push.ensures.items

pub returns-clause-within : goal.returns-clause-within
returns-clause-within g c = omega (arith, c.in_ok-push.ensures.len, c.push.new.self.ok.0, c.len-number.ensures)

pub returns-clause-closed : goal.returns-clause-closed
returns-clause-closed g c =
    let number : length c.args.slots.now.items ≡ c.len-number.result = omega (arith, c.len-number.ensures, c.args.slots.now.ok.0) in
    ap (λ (l : List (RealSlot g.row.F.Denot)). (real_world l).slots c.len-number.result) c.in_ok-push.ensures.items
    ∙ subst (λ (n : ℕ). (real_world (c.args.slots.now.items ++ Closed ∷ [])).slots n ≡ None) number (real_last c.args.slots.now.items)

pub returns-clause-world : goal.returns-clause-world
returns-clause-world g c =
    ap (λ (l : List (RealSlot g.row.F.Denot)). real_world l) c.in_ok-push.ensures.items ∙ real_push c.args.slots.now.items
