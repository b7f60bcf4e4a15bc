use Rattle.std.proofs.Common.{◌≡◌, ◌<◌, ◌∙◌, None, List, length, ap, subst, arith}
use Rattle.std.specs.Prelude.{string_bytes, IfSome}
use Rattle.tqd_base.specs.declared.kept.KeptSlot.{KeptSlot}
use Rattle.tqd_base.specs.Kept.{world_at, slot_of, slot_in, name_kept}
use Rattle.tqd_base.specs.World.{Name, set_slot}
use Rattle.tqd_base.proofs.KeptLemmas.{slots_push, slots_fresh}
use Rattle.tqd_base.proofs.StoreLemmas.{name_push}
use Rattle.tqd_base.proofs.store.Store.add_slot.Goals as goal

pub returns-clause-added : goal.returns-clause-added
unfolding slot_of
returns-clause-added c =
    let number : length c.args.self.now.slots.items ≡ c.len-number.result = omega (arith, c.len-number.ensures, c.args.self.now.slots.ok.0) in
    let w = world_at c.args.self.now.files.items c.args.self.now.output.items c.args.self.now.slots.items in
    record {
      fresh = subst (λ (n : _). w.slots n ≡ None) number (slots_fresh c.args.self.now.files.items c.args.self.now.output.items c.args.self.now.slots.items);
      after =
          ap (world_at c.args.self.now.files.items c.args.self.now.output.items) c.in_ok-push.ensures.items
          ∙ slots_push c.args.self.now.files.items c.args.self.now.output.items c.args.self.now.slots.items _
          ∙ ap (λ (n : _). set_slot w n (slot_in (string_bytes c.in_ok-name.name) c.args.state)) number
          ∙ ap (λ (name : Name). set_slot w c.len-number.result (slot_in name c.args.state)) c.in_ok-name.ensures.ok;
    }

pub returns-clause-failed : goal.returns-clause-failed
returns-clause-failed c =
    ap (λ (l : List KeptSlot). name_kept l c.args.self.now.failed) c.in_ok-push.ensures.items
    ∙ name_push c.args.self.now.slots.items _ c.args.self.now.failed
    (subst (λ (n : _). IfSome c.args.self.now.failed (λ i. i < n)) c.args.self.now.slots.ok.0 c.args.self.now.known)
