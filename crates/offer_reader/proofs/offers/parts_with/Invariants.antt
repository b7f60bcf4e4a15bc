use Rattle.std.proofs.Common.{◌≡◌, take, length}
use Rattle.offer_reader.specs.Book.{parts_of}
use Rattle.offer_reader.proofs.offers.parts_with.Given as goal

abbrev pub invariant-loop-row : goal.invariant-loop-row
invariant-loop-row l = l.parts ≡ parts_of l.needs.units (length l.prices.suppliers) (take l.row-index l.prices.rows)
