use Rattle.std.proofs.Common.{inr, refl, sym, ◌∙◌}
use Rattle.csv.specs.Reading.{Reached, strip_bom}
use Rattle.csv_rows.proofs.reading.reader_of.Goals as goal

pub returns : goal.returns
unfolding Reached
returns c =
    let built = c.from_reader.ensures in
    let flexible = c.flexible.ensures in
    let plain = c.has_headers.ensures in
    let bytes = c.without_mark.ensures in
    record {
      trim = rw (flexible, plain) at built.trim ∙ c.new.ensures.trim;
      ready = inr (inr (rw (flexible, plain) at built.has_headers, built.headers));
      config = rw (flexible, plain) at built.config ∙ c.new.ensures.config;
      rest = strip_bom (strip_bom c.args.bytes.now);
      source = rw bytes at built.source;
      reached = (sym built.state, refl);
    }
