use Rattle.csv.specs.Records.{fields_of}
use Rattle.csv_rows.proofs.ReaderFacts.{map_err-ok, reads-on}
use Rattle.csv_rows.proofs.reading.read_next.Goals as goal

pub returns : goal.returns
returns c =
    map_err-ok c.read_byte_record.result c.map_err.result _ _ c.map_err.ensures.cases
    (reads-on c.read_byte_record.result c.args.reader.now c.read_byte_record.new.self (fields_of c.read_byte_record.new.row) c.read_byte_record.ensures.ready c.read_byte_record.ensures.reads)
