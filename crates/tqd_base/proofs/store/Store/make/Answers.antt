use Rattle.std.proofs.Common.{◌∙◌, Some, None, [], refl, sym, ap, subst}
use Rattle.std.specs.Prelude.{IsSome}
use Rattle.tqd_base.specs.Kept.{world_at}
use Rattle.tqd_base.specs.World.{World, Writing, set_slot, set_file}
use Rattle.tqd_base.proofs.Worlds.{slots-set_slot-same, set_slot-set_slot, set_slot-same}
use Rattle.tqd_base.proofs.StoreLemmas.{file_beside_slot}
use Rattle.tqd_base.proofs.store.Store.make.Goals as goal

pub end-requires : goal.end-requires
end-requires c =
    let w = (world_at c.args.self.now.files.items c.args.self.now.output.items c.args.self.now.slots.items) in
    let slot = Some (Writing c.args.name.now) in
    subst (λ (v : World). IsSome (v.slots c.in_ok-slot.slot)) (sym (c.in-Err.ensures.stays ∙ c.in_ok-slot.ensures.added.after))
    (subst IsSome (sym (slots-set_slot-same w c.in_ok-slot.slot slot)) refl)

pub returns-in-Ok-clause-made : goal.returns-in-Ok-clause-made
returns-in-Ok-clause-made c =
    let w = (world_at c.args.self.now.files.items c.args.self.now.output.items c.args.self.now.slots.items) in
    record {
      fresh = c.in_ok-slot.ensures.added.fresh;
      after =
          c.in-Ok.ensures.set
          ∙ ap (λ (v : World). set_file v c.args.name.now []) c.in_ok-slot.ensures.added.after
          ∙ file_beside_slot w c.args.name.now [] c.in_ok-slot.slot (Some (Writing c.args.name.now));
    }

pub returns-in-Err-clause-stays : goal.returns-in-Err-clause-stays
returns-in-Err-clause-stays c =
    let w = (world_at c.args.self.now.files.items c.args.self.now.output.items c.args.self.now.slots.items) in
    c.end.ensures.world
    ∙ ap (λ (v : World). set_slot v c.in_ok-slot.slot None) (c.in-Err.ensures.stays ∙ c.in_ok-slot.ensures.added.after)
    ∙ set_slot-set_slot w c.in_ok-slot.slot (Some (Writing c.args.name.now)) None
    ∙ set_slot-same w c.in_ok-slot.slot None c.in_ok-slot.ensures.added.fresh
