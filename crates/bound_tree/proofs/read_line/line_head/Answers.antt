use Rattle.std.proofs.Common.{arith, sym, ◌∙◌}
use Rattle.bound_tree.proofs.ReadLines.{head_long, head_none, head_some, fields_few}
use Rattle.bound_tree.proofs.read_line.line_head.Goals as goal

pub returns-then-line-gt-LINE_MAX : goal.returns-then-line-gt-LINE_MAX
returns-then-line-gt-LINE_MAX c = head_long c.args.line.now (omega (arith, c.if-line-gt-LINE_MAX.true))

pub returns-in_err-of : goal.returns-in_err-of
returns-in_err-of c = c.from_residual.ensures ∙ head_none c.args.line.now _ _ (omega (arith, c.if-line-gt-LINE_MAX.false)) c.of-fields.ensures (sym c.in_err-of.ensures)

pub head_by-requires : goal.head_by-requires
head_by-requires c = omega (arith, fields_few c.args.line.now _ _ c.of-fields.ensures, c.if-line-gt-LINE_MAX.false)

pub returns : goal.returns
returns c = c.head_by.ensures ∙ head_some c.args.line.now _ _ _ (omega (arith, c.if-line-gt-LINE_MAX.false)) c.of-fields.ensures (sym c.in_ok-of.ensures)
