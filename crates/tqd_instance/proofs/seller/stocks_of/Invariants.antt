use Rattle.std.proofs.Common.{◌≡◌}
use Rattle.tqd_instance.specs.Built.{stock_of, table}
use Rattle.tqd_instance.proofs.seller.stocks_of.Given as goal

abbrev pub invariant-loop-k : goal.invariant-loop-k
invariant-loop-k l = l.stocks.items ≡ table l.k (stock_of l.parts l.i)
