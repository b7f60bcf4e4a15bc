-- The pieces, one after another, are the text.
use Rattle.std.proofs.Common.{◌++◌}
use Rattle.std.specs.Prelude.{decimal, codes}
use Rattle.plan_report.proofs.Texts.{grows_thrice}
use Rattle.plan_report.proofs.causes.add_rows_cause.Goals as goal

pub returns-in_ok-add_number-in-Text : goal.returns-in_ok-add_number-in-Text
returns-in_ok-add_number-in-Text c =
    rw c.in-Text.is (grows_thrice c.args.text.now.items (codes "row " ++ decimal c.in-Text.at ++ codes ": ") (codes "field ") (decimal c.in-Text.field) (codes " is not UTF-8") _ _ _ c.add_word-in-Text.result
    (c.in_ok-add_in_row-in-Text.ensures) (c.in_ok-add_number-in-Text.ensures) c.add_word-in-Text.ensures)
