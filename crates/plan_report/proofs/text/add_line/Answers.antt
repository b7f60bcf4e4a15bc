-- All fields are added.
use Rattle.std.proofs.Common.{arith}
use Rattle.plan_report.proofs.Texts.{line_grown}
use Rattle.plan_report.proofs.text.add_line.Goals as goal

pub returns : goal.returns
returns c =
    line_grown c.args.text.now.items c.args.word.now _ _ _ c.args.fields.now c.loop-field.field-index c.in_ok-add_word.ensures c.loop-field.invariant
    (omega (arith, c.loop-field-test.false)) c.in_ok-push-2.ensures.items
