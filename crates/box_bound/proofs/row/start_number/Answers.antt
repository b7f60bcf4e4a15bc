use Rattle.std.proofs.Common.{neg_ℤ, sym, subst, ◌∙◌, arith}
use Rattle.std.proofs.lemmas.Int.{ints}
use Rattle.bound_tree.specs.Prices.{IsPrice, price_at}
use Rattle.box_bound.proofs.NumberRows.{read_price, read_negated, negated, price_within, some_price}
use Rattle.box_bound.proofs.row.start_number.Goals.{After-place}
use Rattle.box_bound.proofs.row.start_number.Goals as goal

price : (c : After-place) → IsPrice (price_at c.args.start.now.places c.args.at)
price c = price_within c.args.start.now.places c.args.at c.requires.prices (c.requires.place (omega arith))

pub overflow_sub-result : goal.overflow_sub-result
overflow_sub-result c =
    let p = price c in
    let read = read_price c.place.result (price_at c.args.start.now.places c.args.at) c.place.ensures p in
    omega (arith, ints, p.not_less, p.not_more)

pub returns-clause-value : goal.returns-clause-value
returns-clause-value c =
    read_negated c.place.result (price_at c.args.start.now.places c.args.at) c.place.ensures (price c)
    ∙ some_price c.args.count (neg_ℤ (price_at c.args.start.now.places c.args.at)) (omega arith)

pub returns-clause-in_range : goal.returns-clause-in_range
returns-clause-in_range c =
    let p = price c in
    subst IsPrice (sym (read_negated c.place.result (price_at c.args.start.now.places c.args.at) c.place.ensures p)) (negated _ p)
