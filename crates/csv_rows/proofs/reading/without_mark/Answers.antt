use Rattle.std.proofs.Common.{sym, ◌∙◌}
use Rattle.std.proofs.lemmas.List.{take_rest}
use Rattle.csv_rows.proofs.Marks.{marked, unmarked}
use Rattle.csv_rows.proofs.reading.without_mark.Goals as goal

pub returns-then-starts_with : goal.returns-then-starts_with
returns-then-starts_with c = take_rest c.args.bytes.now 3 ∙ sym (marked c.args.bytes.now (sym c.starts_with.ensures.value ∙ c.if-starts_with.true))

pub returns-else-starts_with : goal.returns-else-starts_with
returns-else-starts_with c = sym (unmarked c.args.bytes.now (sym c.starts_with.ensures.value ∙ c.if-starts_with.false))
