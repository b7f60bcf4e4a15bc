use Rattle.std.proofs.Common.{◌≡◌, Some, refl, sym, subst, arith}
use Rattle.std.specs.Prelude.{slice_get}
use Rattle.tqd_base.specs.World.{Writes}
use Rattle.tqd_base.proofs.DeskLemmas.{same_faults}
use Rattle.tqd_base.proofs.StoreLemmas.{get_here}
use Rattle.tqd_base.proofs.RealLemmas.{real_within, real_here, real_ends}
use Rattle.tqd_base.proofs.real_desk.RealDeskDesk.close.Goals as goal

pub index_mut-ended-requires : goal.index_mut-ended-requires
index_mut-ended-requires g c = omega (arith, real_within c.args.self.now.slots.items c.args.slot c.requires, c.args.self.now.slots.ok.0)

pub returns-then-fails : goal.returns-then-fails
returns-then-fails g c =
    let lt = real_within c.args.self.now.slots.items c.args.slot c.requires in
    let here : slice_get c.args.self.now.slots.items c.args.slot ≡ Some c.index_mut-ended.result.now = get_here c.args.self.now.slots.items c.args.slot c.index_mut-ended.result.now lt c.index_mut-ended.ensures.value in (
      c.risen-self.ensures.rose,
      subst Writes (sym (real_here c.args.self.now.slots.items c.args.slot c.index_mut-ended.result.now here)) (c.fails_to_settle-fails.ensures.writes c.if-fails.true),
      record {
        world = real_ends c.args.self.now.slots.items c.args.slot lt;
        kept = refl;
        never_fall = record { reading = omega arith; writing = c.risen-self.ensures.grows; printing = omega arith };
      },
    )

pub returns : goal.returns
returns g c = record {
  world = real_ends c.args.self.now.slots.items c.args.slot (real_within c.args.self.now.slots.items c.args.slot c.requires);
  kept = refl;
  never_fall = (same_faults (record { reading = c.args.self.now.reading; writing = c.args.self.now.writing; printing = c.args.self.now.printing }));
}
