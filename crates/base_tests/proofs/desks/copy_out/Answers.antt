use Rattle.std.proofs.Common.{sym, ◌∙◌, subst}
use Rattle.std.specs.Prelude.{IsSome}
use Rattle.tqd_base.proofs.DeskLemmas.{writes_some}
use Rattle.tqd_base.proofs.Written.{made_writes, put_slots, printed_slots}
use Rattle.base_tests.proofs.desks.copy_out.Goals as goal

pub put-requires : goal.put-requires
put-requires g c = made_writes (g.D.Desk.state c.args.desk.now) (g.D.Desk.state c.make.new.self) c.args.name.now c.in_ok-slot.slot c.in_ok-slot.ensures

pub close-requires : goal.close-requires
close-requires g c =
    let made = g.D.Desk.state c.make.new.self in
    let written = g.D.Desk.state c.put.new.self in
    let printed = g.D.Desk.state c.out.new.self in
    let slot = c.in_ok-slot.slot in
    subst IsSome (sym (printed_slots written printed c.args.bytes.now slot c.in_ok-out.ensures ∙ put_slots made written slot c.args.bytes.now slot c.in_ok-put.ensures))
    (writes_some _ (made_writes (g.D.Desk.state c.args.desk.now) made c.args.name.now slot c.in_ok-slot.ensures))
