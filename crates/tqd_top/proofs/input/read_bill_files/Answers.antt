-- The orders, and then the bill.
use Rattle.std.proofs.lemmas.Result.{err_from_is_err_and}
use Rattle.std.specs.Option.{option_copied}
use Rattle.tqd_top.specs.JobOf.{BillGives, OrdersOf}
use Rattle.tqd_top.proofs.Readings.{first_stops, then_reads}
use Rattle.tqd_top.proofs.Unreads.{unread_bill, unread_orders}
use Rattle.tqd_top.proofs.input.read_bill_files.Goals as goal

pub returns-in_err-orders : goal.returns-in_err-orders
returns-in_err-orders g c =
    let a = g.D.Desk.absent_is_empty in
    let old = g.D.Desk.state c.args.desk.now in
    let new = g.D.Desk.state c.read_file.new.desk in
    let bill = option_copied c.args.bill in
    let p = err_from_is_err_and c.from_residual.result c.from_residual.ensures.1 in
    rw (p.1, p.2) (first_stops (OrdersOf a old.world c.args.orders.now) (BillGives a old.world bill) _ _ old new _
    (unread_orders a old new c.args.orders.now bill) c.in_err-orders.ensures)

pub returns : goal.returns
returns g c =
    let a = g.D.Desk.absent_is_empty in
    let old = g.D.Desk.state c.args.desk.now in
    let mid = g.D.Desk.state c.read_file.new.desk in
    let new = g.D.Desk.state c.read_given_bill.new.desk in
    let bill = option_copied c.args.bill in
    let read = c.in_ok-orders.ensures in
    then_reads (OrdersOf a old.world c.args.orders.now) (λ w. BillGives a w bill) _ _ old mid new c.in_ok-orders.orders c.read_given_bill.result read.0 read.1
    (λ failed. unread_bill a old mid new c.args.orders.now bill c.in_ok-orders.orders failed read.0 read.1.states) c.read_given_bill.ensures
