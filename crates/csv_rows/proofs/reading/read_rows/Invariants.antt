use Rattle.csv.specs.Records.{fields_of}
use Rattle.csv_rows.proofs.TableFacts.{HasFields}
use Rattle.csv_rows.proofs.reading.read_rows.Given as goal

abbrev pub invariant-loop-at : goal.invariant-loop-at
invariant-loop-at l = HasFields l.width l.at l.fn.reader l.reader (fields_of l.texts)
