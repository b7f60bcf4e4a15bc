use Rattle.std.proofs.Common.{◌∙◌, refl, sym, ap, arith}
use Rattle.tqd_base.specs.declared.desk.DeskStop.TheVariants.{Memory as NoMemory}
use Rattle.tqd_base.specs.RealState.{real_state}
use Rattle.tqd_base.specs.World.{World}
use Rattle.tqd_base.specs.Calls.{MakeGives}
use Rattle.tqd_base.proofs.DeskLemmas.{at_stop, same_faults}
use Rattle.tqd_base.proofs.RealLemmas.{real_makes}
use Rattle.tqd_base.proofs.real_desk.RealDeskDesk.make.Goals as goal

pub returns-in_err-kept : goal.returns-in_err-kept
returns-in_err-kept g c =
    let old = real_state c.args.self.now.slots.items c.args.self.now.reading c.args.self.now.writing c.args.self.now.printing in
    at_stop (MakeGives old old c.args.name.now) _ NoMemory c.from_residual.ensures.1
    (record { world = refl; kept = refl; never_fall = (same_faults (record { reading = c.args.self.now.reading; writing = c.args.self.now.writing; printing = c.args.self.now.printing })) })

pub returns-in_err-number : goal.returns-in_err-number
returns-in_err-number g c =
    let old = real_state c.args.self.now.slots.items c.args.self.now.reading c.args.self.now.writing c.args.self.now.printing in
    let new = real_state c.add_slot.new.slots.items c.args.self.now.reading c.args.self.now.writing c.args.self.now.printing in
    at_stop (MakeGives old new c.args.name.now) _ NoMemory c.from_residual-in_err-number.ensures.1
    (record { world = c.add_slot.ensures.world; kept = refl; never_fall = (same_faults (record { reading = c.args.self.now.reading; writing = c.args.self.now.writing; printing = c.args.self.now.printing })) })

pub index_mut-requires : goal.index_mut-requires
index_mut-requires g c = omega (arith, c.in_ok-number.ensures.within, c.add_slot.new.slots.ok.0)

pub returns-in-Ok : goal.returns-in-Ok
returns-in-Ok g c = record {
  fresh = ap (λ (w : World). w.slots c.in_ok-number.number) (sym c.add_slot.ensures.world) ∙ c.in_ok-number.ensures.closed;
  world = real_makes c.args.self.now.slots.items c.add_slot.new.slots.items c.in_ok-number.number c.in_ok-kept.kept c.in-Ok.file c.args.name.now
      c.in_ok-number.ensures.within c.add_slot.ensures.world c.in_ok-kept.ensures.ok;
  kept = refl;
  never_fall = (same_faults (record { reading = c.args.self.now.reading; writing = c.args.self.now.writing; printing = c.args.self.now.printing }));
}

pub returns-in-Err : goal.returns-in-Err
returns-in-Err g c = record {
  rests = record { world = c.add_slot.ensures.world; kept = refl; never_fall = record { reading = omega arith; writing = c.risen-self.ensures.grows; printing = omega arith } };
  rose = c.risen-self.ensures.rose;
}
