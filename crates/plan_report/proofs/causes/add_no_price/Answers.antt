-- The pieces, one after another, are the text.
use Rattle.std.specs.Prelude.{decimal, codes}
use Rattle.plan_report.proofs.Texts.{grows_six_times}
use Rattle.plan_report.proofs.causes.add_no_price.Goals as goal

pub returns : goal.returns
returns c =
    grows_six_times c.args.text.now.items (codes "no price of ") c.args.part.now (codes " from ") (decimal c.args.from) (codes " at ") c.args.supplier.now _ _ _ _ _ _ c.add_word-5.result
    c.in_ok-add_word.ensures c.in_ok-add_word-2.ensures c.in_ok-add_word-3.ensures c.in_ok-add_number.ensures c.in_ok-add_word-4.ensures c.add_word-5.ensures
