use Rattle.std.proofs.Common.{[], refl, sym, arith}
use Rattle.tqd_base.proofs.DeskLemmas.{same_faults}
use Rattle.tqd_base.proofs.RealLemmas.{real_print}
use Rattle.tqd_base.proofs.real_desk.RealDeskDesk.out.Goals as goal

pub returns-then-write_whole : goal.returns-then-write_whole
returns-then-write_whole g c = record { world = sym (real_print c.args.self.now.slots.items c.args.piece.now); kept = refl; never_fall = (same_faults (record { reading = c.args.self.now.reading; writing = c.args.self.now.writing; printing = c.args.self.now.printing })) }

pub returns : goal.returns
returns g c = (
  c.risen-self.ensures.rose,
  (
    0,
    (omega arith),
    record {
      world = sym (real_print c.args.self.now.slots.items []);
      kept = refl;
      never_fall = record { reading = omega arith; writing = omega arith; printing = c.risen-self.ensures.grows };
    },
  ),
)
