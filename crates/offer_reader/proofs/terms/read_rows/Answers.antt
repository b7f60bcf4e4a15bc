use Rattle.std.proofs.Common.{◌∷◌, [], refl, arith}
use Rattle.offer_reader.proofs.TermFacts.{AreTexts, row_read, row_stops}
use Rattle.offer_reader.proofs.terms.read_rows.Goals as goal

pub loop-row-preserved : goal.loop-row-preserved
loop-row-preserved c =
    let texts = c.field.result.now ∷ c.field-in-loop-row.result.now ∷ c.field-in-loop-row-2.result.now ∷ c.field-in-loop-row-3.result.now ∷ c.field-in-loop-row-4.result.now ∷ [] in
    let are : AreTexts c.args.table.now c.loop-row.row texts = record {
      inside = omega arith;
      width = c.requires.width;
      texts_are = rw (c.field.ensures, c.field-in-loop-row.ensures, c.field-in-loop-row-2.ensures, c.field-in-loop-row-3.ensures, c.field-in-loop-row-4.ensures) refl;
    } in
    row_read (record { names = c.args.names.now; goods = c.args.needs.now.goods }) c.args.book.now c.args.table.now c.loop-row.row texts c.loop-row.reading c.read_row.new.self c.loop-row.invariant are c.in-Ok.ensures.answer c.in-Ok.ensures.added

pub returns-in-Err : goal.returns-in-Err
returns-in-Err c =
    let texts = c.field.result.now ∷ c.field-in-loop-row.result.now ∷ c.field-in-loop-row-2.result.now ∷ c.field-in-loop-row-3.result.now ∷ c.field-in-loop-row-4.result.now ∷ [] in
    let are : AreTexts c.args.table.now c.loop-row.row texts = record {
      inside = omega arith;
      width = c.requires.width;
      texts_are = rw (c.field.ensures, c.field-in-loop-row.ensures, c.field-in-loop-row-2.ensures, c.field-in-loop-row-3.ensures, c.field-in-loop-row-4.ensures) refl;
    } in
    row_stops (record { names = c.args.names.now; goods = c.args.needs.now.goods }) c.args.book.now c.args.table.now c.loop-row.row texts c.loop-row.reading c.in-Err.stop c.loop-row.invariant are c.in-Err.ensures.answer
