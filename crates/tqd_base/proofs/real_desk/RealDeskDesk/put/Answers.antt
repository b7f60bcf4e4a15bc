use Rattle.std.proofs.Common.{◌≡◌, ◌∙◌, Some, [], refl, sym, subst, arith}
use Rattle.std.specs.Prelude.{slice_get}
use Rattle.tqd_base.specs.RealState.{real_world}
use Rattle.tqd_base.specs.World.{Writes, name_at}
use Rattle.tqd_base.proofs.DeskLemmas.{same_faults, writes_some}
use Rattle.tqd_base.proofs.StoreLemmas.{get_here}
use Rattle.tqd_base.proofs.RealLemmas.{real_within, real_here, real_stays, real_append}
use Rattle.tqd_base.proofs.real_desk.RealDeskDesk.put.Goals as goal

pub index_mut-requires : goal.index_mut-requires
index_mut-requires g c = omega (arith, real_within c.args.self.now.slots.items c.args.slot (writes_some _ c.requires), c.args.self.now.slots.ok.0)

pub write-requires : goal.write-requires
write-requires g c =
    let lt = real_within c.args.self.now.slots.items c.args.slot (writes_some _ c.requires) in
    let here : slice_get c.args.self.now.slots.items c.args.slot ≡ Some c.index_mut.result.now = get_here c.args.self.now.slots.items c.args.slot c.index_mut.result.now lt c.index_mut.ensures.value in
    subst Writes (real_here c.args.self.now.slots.items c.args.slot c.index_mut.result.now here) c.requires

pub returns-then-write : goal.returns-then-write
returns-then-write g c =
    let lt = real_within c.args.self.now.slots.items c.args.slot (writes_some _ c.requires) in
    let here : slice_get c.args.self.now.slots.items c.args.slot ≡ Some c.index_mut.result.now = get_here c.args.self.now.slots.items c.args.slot c.index_mut.result.now lt c.index_mut.ensures.value in
    record {
      world = real_stays c.args.self.now.slots.items c.args.slot c.index_mut.result.now c.write.new.self lt here c.write.ensures ∙ sym (real_append c.args.self.now.slots.items (name_at (real_world c.args.self.now.slots.items) c.args.slot) c.args.piece.now);
      kept = refl;
      never_fall = (same_faults (record { reading = c.args.self.now.reading; writing = c.args.self.now.writing; printing = c.args.self.now.printing }));
    }

pub returns : goal.returns
returns g c =
    let lt = real_within c.args.self.now.slots.items c.args.slot (writes_some _ c.requires) in
    let here : slice_get c.args.self.now.slots.items c.args.slot ≡ Some c.index_mut.result.now = get_here c.args.self.now.slots.items c.args.slot c.index_mut.result.now lt c.index_mut.ensures.value in (
      c.risen-self.ensures.rose,
      (
        0,
        (omega arith),
        record {
          world = real_stays c.args.self.now.slots.items c.args.slot c.index_mut.result.now c.write.new.self lt here c.write.ensures ∙ sym (real_append c.args.self.now.slots.items (name_at (real_world c.args.self.now.slots.items) c.args.slot) []);
          kept = refl;
          never_fall = record { reading = omega arith; writing = c.risen-self.ensures.grows; printing = omega arith };
        },
      ),
    )
