use Rattle.std.proofs.Common.{◌≡◌, ◌++◌, ◌∙◌, Some, List, [], ◌∷◌, length, refl, ap, subst, arith}
use Rattle.std.specs.Prelude.{string_bytes}
use Rattle.tqd_base.specs.declared.kept.KeptSlot.{KeptSlot}
use Rattle.tqd_base.specs.declared.kept.SlotState.TheVariants.{Closed}
use Rattle.tqd_base.specs.Kept.{world_at, name_kept}
use Rattle.tqd_base.specs.World.{Name}
use Rattle.tqd_base.proofs.StoreLemmas.{closed_push, name_last}
use Rattle.tqd_base.proofs.store.Store.fail_name.Goals as goal

pub returns-clause-world : goal.returns-clause-world
returns-clause-world c =
    ap (world_at c.args.self.now.files.items c.args.self.now.output.items) c.in_ok-push.ensures.items
    ∙ closed_push c.args.self.now.files.items c.args.self.now.output.items c.args.self.now.slots.items _ refl

pub returns-clause-failed : goal.returns-clause-failed
returns-clause-failed c =
    let place : length c.args.self.now.slots.items ≡ c.len-place.result = omega (arith, c.len-place.ensures, c.args.self.now.slots.ok.0) in
    let kept : KeptSlot = record { name = c.in_ok-name.name; state = Closed } in
    ap (λ (l : List KeptSlot). name_kept l (Some c.len-place.result)) c.in_ok-push.ensures.items
    ∙ subst (λ (n : _). name_kept (c.args.self.now.slots.items ++ kept ∷ []) (Some n) ≡ Some (string_bytes c.in_ok-name.name)) place (name_last c.args.self.now.slots.items kept)
    ∙ ap (λ (n : Name). Some n) c.in_ok-name.ensures.ok
