use Rattle.bom_reader.proofs.BillFacts.{reads-lines, bill-kept, bill-is}
use Rattle.bom_reader.proofs.bill.read_bill.Goals as goal

pub invariant_of-result : goal.invariant_of-result
invariant_of-result c =
    let reads = reads-lines c.orders.inside.names c.read_lines.new.names c.orders.inside.ordered.items c.resize.new.self.items c.in_ok-table.table c.in_ok-lines.lines.items c.orders.inside.ordered.len c.len-2.result c.len.result
    c.orders.invariant c.len.ensures c.if-len-gt-LINES_MAX.false c.in_ok-lines.ensures.names c.in_ok-lines.ensures.answer c.orders.inside.ordered.ok.0 c.len-2.ensures.value c.in_ok-resize.ensures.items in
    bill-kept c.orders.inside.names c.read_lines.new.names c.orders.inside.ordered.items c.resize.new.self.items c.in_ok-table.table c.in_ok-lines.lines.items reads c.len-2.ensures.distinct

pub returns : goal.returns
returns c =
    let reads = reads-lines c.orders.inside.names c.read_lines.new.names c.orders.inside.ordered.items c.resize.new.self.items c.in_ok-table.table c.in_ok-lines.lines.items c.orders.inside.ordered.len c.len-2.result c.len.result
    c.orders.invariant c.len.ensures c.if-len-gt-LINES_MAX.false c.in_ok-lines.ensures.names c.in_ok-lines.ensures.answer c.orders.inside.ordered.ok.0 c.len-2.ensures.value c.in_ok-resize.ensures.items in
    rw (← c.orders.view_is, c.in_ok-table.ensures.answer) (bill-is c.orders.inside.names c.read_lines.new.names c.orders.inside.ordered.items c.resize.new.self.items c.in_ok-table.table c.in_ok-lines.lines.items reads)
