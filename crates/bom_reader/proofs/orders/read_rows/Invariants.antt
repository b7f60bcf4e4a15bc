use Rattle.bom_reader.proofs.OrderFacts.{HasOrders}
use Rattle.bom_reader.proofs.orders.read_rows.Given as goal

abbrev pub invariant-loop-row : goal.invariant-loop-row
invariant-loop-row l = HasOrders l.table l.row l.names l.ordered.items
