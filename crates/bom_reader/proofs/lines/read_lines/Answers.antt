use Rattle.std.proofs.Common.{◌≡◌, ◌+◌, true, false, Vec, Global, sym, ◌∙◌, refl, arith}
use Rattle.std.proofs.lemmas.Bool.{not-false, not-true}
use Rattle.std.proofs.lemmas.Result.{err_from_is_err_and}
use Rattle.std.specs.BTreeSet.{contains}
use Rattle.bom_reader.specs.declared.line.Line.{Line}
use Rattle.bom_reader.proofs.PairFacts.{pair_cmp, pair_of}
use Rattle.bom_reader.proofs.LineFacts.{ReadsRow, no-lines, lines-stop, line-repeats, more-lines, all-lines, all-names}
use Rattle.bom_reader.proofs.lines.read_lines.Goals as goal

pub loop-row-init : goal.loop-row-init
loop-row-init c = rw c.in_ok-lines.ensures.items (no-lines c.args.names.now c.args.table.now c.new-pairs.result c.new-pairs.ensures.empty)

pub returns-in_err-line-clause-answer : goal.returns-in_err-line-clause-answer
returns-in_err-line-clause-answer c =
    let p = err_from_is_err_and c.from_residual-in_err-line.result c.from_residual-in_err-line.ensures.1 in
    let row : ReadsRow c.args.table.now c.loop-row.row (c.loop-row.row + 2) c.loop-row.names c.read_line.new.names c.field.result.now c.field-in-loop-row.result.now c.field-in-loop-row-2.result.now = record { inside = omega arith; number = refl; first_is = c.field.ensures; second_is = c.field-in-loop-row.ensures; third_is = c.field-in-loop-row-2.ensures } in
    rw (p.1, p.2) (lines-stop (λ (lines : Vec Line Global). lines.items) c.args.names.now c.args.table.now c.loop-row.row (c.loop-row.row + 2) c.loop-row.names c.read_line.new.names c.loop-row.lines.items c.loop-row.pairs c.field.result.now c.field-in-loop-row.result.now c.field-in-loop-row-2.result.now c.in_err-line.field-0.0 _
    c.loop-row.invariant row c.in_err-line.ensures.answer)

pub returns-then-not-branch-clause-answer : goal.returns-then-not-branch-clause-answer
returns-then-not-branch-clause-answer c =
    let repeats : contains pair_cmp c.loop-row.pairs (pair_of c.in_ok-line.line) ≡ true = not-false _ (sym c.in_ok-insert.ensures.added ∙ c.if-not-branch.true) in
    let row : ReadsRow c.args.table.now c.loop-row.row (c.loop-row.row + 2) c.loop-row.names c.read_line.new.names c.field.result.now c.field-in-loop-row.result.now c.field-in-loop-row-2.result.now = record { inside = omega arith; number = refl; first_is = c.field.ensures; second_is = c.field-in-loop-row.ensures; third_is = c.field-in-loop-row-2.ensures } in
    line-repeats c.args.names.now c.args.table.now c.loop-row.row (c.loop-row.row + 2) c.loop-row.names c.read_line.new.names c.loop-row.lines.items c.loop-row.pairs c.field.result.now c.field-in-loop-row.result.now c.field-in-loop-row-2.result.now c.in_ok-line.line _
    c.loop-row.invariant row c.in_ok-line.ensures.names c.in_ok-line.ensures.answer repeats

pub loop-row-preserved : goal.loop-row-preserved
loop-row-preserved c =
    let fresh : contains pair_cmp c.loop-row.pairs (pair_of c.in_ok-line.line) ≡ false = not-true _ (sym c.in_ok-insert.ensures.added ∙ c.if-not-branch.false) in
    let row : ReadsRow c.args.table.now c.loop-row.row (c.loop-row.row + 2) c.loop-row.names c.read_line.new.names c.field.result.now c.field-in-loop-row.result.now c.field-in-loop-row-2.result.now = record { inside = omega arith; number = refl; first_is = c.field.ensures; second_is = c.field-in-loop-row.ensures; third_is = c.field-in-loop-row-2.ensures } in
    more-lines c.args.names.now c.args.table.now c.loop-row.row (c.loop-row.row + 2) c.loop-row.names c.read_line.new.names c.loop-row.lines.items c.push.new.self.items c.loop-row.pairs c.insert.new.self c.field.result.now c.field-in-loop-row.result.now c.field-in-loop-row-2.result.now c.in_ok-line.line
    c.loop-row.invariant row c.in_ok-line.ensures.names c.in_ok-line.ensures.answer fresh c.in_ok-push.ensures.items c.in_ok-insert.ensures.updates.0

pub returns-clause-answer : goal.returns-clause-answer
returns-clause-answer c = all-lines c.args.names.now c.args.table.now c.loop-row.row c.loop-row.names c.loop-row.lines.items c.loop-row.pairs c.loop-row.invariant (omega arith)

pub returns-clause-names : goal.returns-clause-names
returns-clause-names c = all-names c.args.names.now c.args.table.now c.loop-row.row c.loop-row.names c.loop-row.lines.items c.loop-row.pairs c.loop-row.invariant (omega arith)
