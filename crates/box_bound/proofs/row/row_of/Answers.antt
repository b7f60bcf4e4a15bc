use Rattle.std.proofs.Common.{subst, sym, ◌∙◌}
use Rattle.std.specs.Prelude.{Result, Ok, Err, IfOk}
use Rattle.box_bound.specs.NodeRow.{IsRowOf}
use Rattle.box_bound.proofs.NumberRows.{record_of, same_prices, is_row}
use Rattle.box_bound.proofs.row.row_of.Goals as goal

weaker : {A E : Type 0} (P Q : A → Type 0) → ((a : A) → P a → Q a) → (r : Result A E) → IfOk r P → IfOk r Q
weaker P Q f (Ok a) h = f a h
weaker P Q f (Err e) h = tt

pub returns : goal.returns
returns c =
    let job = c.args.job.now in
    let area = c.args.area.now in
    let numbers = c.args.numbers.now in
    let goods = c.in_ok-goods.goods.items in
    let places = c.in_ok-places.places.items in
    let same = same_prices c.deref.result.now c.deref-2.result.now goods places c.deref.ensures.value c.deref-2.ensures.value in
    let row = is_row job area numbers c.requires.numbers (record_of goods places) c.in_ok-goods.ensures.len c.in_ok-goods.ensures.each c.in_ok-places.ensures in
    weaker _ (λ row. IsRowOf job area numbers row) (λ p is. subst (λ row. IsRowOf job area numbers row) (sym (is ∙ same)) row) c.build.result c.build.ensures
