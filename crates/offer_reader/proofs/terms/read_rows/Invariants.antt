use Rattle.std.proofs.Common.{take}
use Rattle.offer_reader.proofs.TermFacts.{HasTerms}
use Rattle.offer_reader.proofs.terms.read_rows.Given as goal

abbrev pub invariant-loop-row : goal.invariant-loop-row
invariant-loop-row l = HasTerms (record { names = l.names; goods = l.needs.goods }) l.book (take l.row l.table) l.reading
