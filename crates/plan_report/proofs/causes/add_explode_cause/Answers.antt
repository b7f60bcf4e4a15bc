-- The pieces, one after another, are the text.
use Rattle.std.specs.Prelude.{codes}
use Rattle.plan_report.specs.Named.{name_at}
use Rattle.plan_report.proofs.Texts.{grows_twice}
use Rattle.plan_report.proofs.causes.add_explode_cause.Goals as goal

pub returns-in_ok-add_word-in-Circle : goal.returns-in_ok-add_word-in-Circle
returns-in_ok-add_word-in-Circle c =
    rw c.in-Circle.is (grows_twice c.args.text.now.items (codes "circle through ") (name_at c.args.names.now.names.now c.in-Circle.n) _ _ _ c.add_word-in-Circle.result
    c.in_ok-add_word-in-Circle.ensures c.name.ensures c.add_word-in-Circle.ensures)
