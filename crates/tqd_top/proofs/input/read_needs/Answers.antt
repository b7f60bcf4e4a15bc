-- The bill, and then its explosion.
use Rattle.std.proofs.lemmas.Result.{err_from_is_err_and}
use Rattle.std.specs.Option.{option_copied}
use Rattle.tqd_top.specs.JobOf.{BillOf, ExplosionGives}
use Rattle.tqd_top.proofs.Readings.{first_stops, then_answers}
use Rattle.tqd_top.proofs.input.read_needs.Goals as goal

pub returns-in_err-bill : goal.returns-in_err-bill
returns-in_err-bill g c =
    let a = g.D.Desk.absent_is_empty in
    let old = g.D.Desk.state c.args.desk.now in
    let new = g.D.Desk.state c.read_bill_files.new.desk in
    let p = err_from_is_err_and c.from_residual.result c.from_residual.ensures.1 in
    rw (p.1, p.2) (first_stops (BillOf a old.world c.args.orders.now (option_copied c.args.bill)) ExplosionGives _ _ old new _ (λ file fails. fails) c.in_err-bill.ensures)

pub returns : goal.returns
returns g c =
    let a = g.D.Desk.absent_is_empty in
    let old = g.D.Desk.state c.args.desk.now in
    let new = g.D.Desk.state c.read_bill_files.new.desk in
    let read = c.in_ok-bill.ensures in
    then_answers (BillOf a old.world c.args.orders.now (option_copied c.args.bill)) ExplosionGives _ old new c.in_ok-bill.bill c.needs_of.result read.0 read.1 c.needs_of.ensures
