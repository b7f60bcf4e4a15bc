use Rattle.std.proofs.Common.{take}
use Rattle.offer_reader.specs.Steps.{HasOffers}
use Rattle.offer_reader.proofs.offers.read_rows.Given as goal

abbrev pub invariant-loop-row : goal.invariant-loop-row
invariant-loop-row l = HasOffers (record { names = l.names; goods = l.needs.goods }) (take l.row l.table) l.reading
