use Rattle.std.proofs.Common.{◌+◌, refl, arith}
use Rattle.std.proofs.lemmas.Result.{err_from_is_err_and}
use Rattle.bom_reader.proofs.OrderFacts.{no-orders, more-orders, orders-stop, all-orders, are-orders}
use Rattle.bom_reader.proofs.orders.read_rows.Goals as goal

pub loop-row-init : goal.loop-row-init
loop-row-init c = rw (c.empty-names.ensures, c.in_ok-ordered.ensures.items) (no-orders c.args.table.now)

pub overflow_add-at : goal.overflow_add-at
overflow_add-at c = let few = c.loop-row.invariant.few in omega arith

pub returns-in_err-units : goal.returns-in_err-units
returns-in_err-units c =
    let p = err_from_is_err_and c.from_residual-in_err-units.result c.from_residual-in_err-units.ensures.1 in
    rw (p.1, p.2) (orders-stop c.args.table.now c.loop-row.row (c.loop-row.row + 2) c.loop-row.names c.loop-row.ordered.items c.field.result.now c.field-in-loop-row.result.now c.in_err-units.field-0.0
    c.loop-row.invariant (omega arith) refl c.field.ensures c.field-in-loop-row.ensures c.in_err-units.ensures.answer)

pub loop-row-preserved : goal.loop-row-preserved
loop-row-preserved c =
    more-orders c.args.table.now c.loop-row.row (c.loop-row.row + 2) c.loop-row.names c.read_order.new.names c.loop-row.ordered.items c.push.new.self.items c.field.result.now c.field-in-loop-row.result.now c.in_ok-units.units
    c.loop-row.invariant (omega arith) refl c.field.ensures c.field-in-loop-row.ensures c.in_ok-units.ensures.answer c.in_ok-units.ensures.names c.in_ok-units.ensures.few c.in_ok-push.ensures.items

pub invariant_of-result : goal.invariant_of-result
invariant_of-result c = are-orders c.args.table.now c.loop-row.row c.loop-row.names c.loop-row.ordered.items c.loop-row.invariant

pub returns : goal.returns
returns c = all-orders c.args.table.now c.loop-row.row c.loop-row.names c.loop-row.ordered.items c.loop-row.invariant (omega arith)
