-- The file is opened, taken whole and closed.
use Rattle.tqd_base.proofs.Whole.{opened_reads, some_slot, gives_unopened, gives_closed}
use Rattle.tqd_base.proofs.read.read_all.Goals as goal

pub returns-in_err-slot : goal.returns-in_err-slot
returns-in_err-slot g c =
    gives_unopened g.D.Desk.absent_is_empty _ (g.D.Desk.state c.open.new.self) c.args.name.now c.args.limit c.in_err-slot.field-0.0 c.from_residual.result c.in_err-slot.ensures c.from_residual.ensures.1

pub take_all-read-requires : goal.take_all-read-requires
take_all-read-requires g c = opened_reads _ _ _ _ c.in_ok-slot.slot c.in_ok-slot.ensures

pub close-closed-requires : goal.close-closed-requires
close-closed-requires g c = some_slot _ c.take_all-read.ensures.drains.reads

pub returns : goal.returns
returns g c =
    gives_closed g.D.Desk.absent_is_empty (g.D.Desk.state c.args.desk.now) (g.D.Desk.state c.open.new.self) (g.D.Desk.state c.take_all-read.new.desk) (g.D.Desk.state c.close-closed.new.self)
    c.args.name.now c.in_ok-slot.slot c.args.limit c.take_all-read.result c.close-closed.result c.in_ok-slot.ensures c.take_all-read.ensures c.close-closed.ensures
