use Rattle.std.proofs.Common.{◌≡◌, ◌∙◌, Some, refl, subst, arith}
use Rattle.std.specs.Prelude.{slice_get}
use Rattle.tqd_base.specs.RealState.{real_world}
use Rattle.tqd_base.specs.World.{Reads, name_at}
use Rattle.tqd_base.proofs.DeskLemmas.{same_faults}
use Rattle.tqd_base.proofs.Whole.{some_slot}
use Rattle.tqd_base.proofs.StoreLemmas.{get_here}
use Rattle.tqd_base.proofs.RealLemmas.{real_within, real_here, real_stays, real_taken, real_moves, real_unnamed}
use Rattle.tqd_base.proofs.real_desk.RealDeskDesk.take.Goals as goal

pub index_mut-requires : goal.index_mut-requires
index_mut-requires g c = omega (arith, real_within c.args.self.now.slots.items c.args.slot (some_slot _ c.requires.reads), c.args.self.now.slots.ok.0)

pub read-requires : goal.read-requires
read-requires g c =
    let lt = real_within c.args.self.now.slots.items c.args.slot (some_slot _ c.requires.reads) in
    let here : slice_get c.args.self.now.slots.items c.args.slot ≡ Some c.index_mut.result.now = get_here c.args.self.now.slots.items c.args.slot c.index_mut.result.now lt c.index_mut.ensures.value in
    subst Reads (real_here c.args.self.now.slots.items c.args.slot c.index_mut.result.now here) c.requires.reads

pub returns-in-Ok : goal.returns-in-Ok
returns-in-Ok g c =
    let lt = real_within c.args.self.now.slots.items c.args.slot (some_slot _ c.requires.reads) in
    let here : slice_get c.args.self.now.slots.items c.args.slot ≡ Some c.index_mut.result.now = get_here c.args.self.now.slots.items c.args.slot c.index_mut.result.now lt c.index_mut.ensures.value in
    record {
      fits = c.in-Ok.ensures.fits;
      moves = real_moves c.args.self.now.slots.items c.args.slot c.read.new.buffer c.in-Ok.count;
      world = real_stays c.args.self.now.slots.items c.args.slot c.index_mut.result.now c.read.new.self lt here c.read.ensures.same ∙ real_taken c.args.self.now.slots.items c.args.slot c.in-Ok.count;
      kept = refl;
      never_fall = (same_faults (record { reading = c.args.self.now.reading; writing = c.args.self.now.writing; printing = c.args.self.now.printing }));
    }

pub returns-in-Err : goal.returns-in-Err
returns-in-Err g c =
    let lt = real_within c.args.self.now.slots.items c.args.slot (some_slot _ c.requires.reads) in
    let here : slice_get c.args.self.now.slots.items c.args.slot ≡ Some c.index_mut.result.now = get_here c.args.self.now.slots.items c.args.slot c.index_mut.result.now lt c.index_mut.ensures.value in
    record {
      world = real_stays c.args.self.now.slots.items c.args.slot c.index_mut.result.now c.read.new.self lt here c.read.ensures.same;
      rose = c.risen-self.ensures.rose;
      named = real_unnamed c.args.self.now.slots.items (name_at (real_world c.args.self.now.slots.items) c.args.slot);
      never_fall = record { reading = c.risen-self.ensures.grows; writing = omega arith; printing = omega arith };
    }
