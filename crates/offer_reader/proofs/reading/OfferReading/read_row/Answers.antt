use Rattle.std.proofs.Common.{◌≡◌, true, false, sym, ap, subst, ◌∙◌}
use Rattle.std.proofs.lemmas.Bool.{not-false, not-true}
use Rattle.std.proofs.lemmas.Result.{err_from_is_err_and}
use Rattle.bom_reader.specs.Faults.{Answers, unless}
use Rattle.offer_reader.specs.Reading.{PricesData, many_fault, priced, row_of}
use Rattle.offer_reader.specs.Steps.{ReadingData}
use Rattle.offer_reader.proofs.StepFacts.{repeats, fields_stop, has_numbers, row_repeats, good_answers}
use Rattle.offer_reader.proofs.reading.OfferReading.read_row.Goals as goal

pub returns-in_err-numbers-clause-answer : goal.returns-in_err-numbers-clause-answer
returns-in_err-numbers-clause-answer c =
    let p = err_from_is_err_and c.from_residual.result c.from_residual.ensures.1 in
    rw (p.1, p.2) (fields_stop (record { names = c.args.names.now; goods = c.args.needs.now.goods }) c.args.self.now c.args.at (row_of c.args.row.now) c.in_err-numbers.field-0.0 c.in_err-numbers.ensures)

pub returns-then-not-branch-clause-answer : goal.returns-then-not-branch-clause-answer
returns-then-not-branch-clause-answer c =
    let stood : repeats c.args.self.now (row_of c.args.row.now) c.in_ok-numbers.numbers ≡ true = not-false _ (sym c.in_ok-note_names.ensures.fresh ∙ c.if-not-branch.true) in
    row_repeats (record { names = c.args.names.now; goods = c.args.needs.now.goods }) c.args.self.now c.args.at (row_of c.args.row.now) c.in_ok-numbers.numbers
    (has_numbers c.args.at (row_of c.args.row.now) c.in_ok-numbers.numbers c.in_ok-numbers.ensures) stood

pub returns-in-Some-clause-answer : goal.returns-in-Some-clause-answer
returns-in-Some-clause-answer c =
    let fresh : repeats c.args.self.now (row_of c.args.row.now) c.in_ok-numbers.numbers ≡ false = not-true _ (sym c.in_ok-note_names.ensures.fresh ∙ c.if-not-branch.false) in
    good_answers (record { names = c.args.names.now; goods = c.args.needs.now.goods }) c.args.self.now c.args.at (row_of c.args.row.now) c.in_ok-numbers.numbers c.in-Some.good c.add.result
    (has_numbers c.args.at (row_of c.args.row.now) c.in_ok-numbers.numbers c.in_ok-numbers.ensures) fresh (sym c.in-Some.ensures)
    (subst (λ (goods : PricesData). Answers c.add.result (unless (many_fault (priced goods c.args.row.now.supplier.now c.in-Some.good c.in_ok-numbers.numbers) c.args.row.now.supplier.now c.args.at) tt))
    (ap (λ (r : ReadingData). r.goods) (c.self.view_is ∙ c.in_ok-note_names.ensures.noted)) c.add.ensures.answer)
