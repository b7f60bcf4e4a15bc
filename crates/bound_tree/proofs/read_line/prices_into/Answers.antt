use Rattle.std.proofs.Common.{arith, rules, length, sym, ◌∙◌, w64, subst, ℤ, ◌≡◌, false}
use mir.Syntax.{w128}
use mir.Val.{SFits}
use Rattle.std.proofs.lemmas.Int.{to_z-of_z}
use Rattle.bound_tree.specs.LineHead.{prices_of, is_beyond}
use Rattle.bound_tree.proofs.RowReads.{left_at_first, some_left, fields_left, next_left, read_none, read_more, read_all, limit_fits}
use Rattle.bound_tree.proofs.read_line.prices_into.Goals as goal

pub loop-place-init : goal.loop-place-init
loop-place-init c =
    let first = left_at_first (length c.args.out.now) c.args.line.now _ c.of_prices-fields.ensures c.requires in
    record { left = first.0; read = read_none (prices_of c.args.line.now) c.args.out.now first.1 }

pub next_price-price-requires-clause-some : goal.next_price-price-requires-clause-some
next_price-price-requires-clause-some c =
    fields_left (prices_of c.args.line.now) c.loop-place.place-index _ c.loop-place.invariant.left (omega (arith, c.loop-place-test.true, c.loop-place.invariant.read.count))

pub next_price-price-requires-clause-prices : goal.next_price-price-requires-clause-prices
next_price-price-requires-clause-prices c = some_left (prices_of c.args.line.now) c.loop-place.place-index _ c.loop-place.invariant.left

pub returns : goal.returns
returns c = read_all (prices_of c.args.line.now) c.loop-place.out c.loop-place.place-index c.loop-place.invariant.read (omega (arith, c.loop-place-test.false))

pub loop-place-preserved : goal.loop-place-preserved
loop-place-preserved c =
    let fits : SFits w128 c.next_price-price.result = search rules in
    let back = to_z-of_z w128 c.next_price-price.result fits in
    let e = c.in-Some.ensures.0 ∙ back in
    let within = subst (λ (z : ℤ). is_beyond z ≡ false) (sym c.in-Some.ensures.0) c.in-Some.ensures.1 in
    let next = next_left (prices_of c.args.line.now) c.loop-place.place-index c.loop-place.fields c.next_price-price.new.self c.in-Some.price c.loop-place.invariant.left (rw e c.next_price-price.ensures) in
    record {
      left = next.1;
      read = rw (to_z-of_z w64 c.in-Some.price (limit_fits c.in-Some.price within))
          (read_more (prices_of c.args.line.now) c.loop-place.out c.loop-place.place-index c.in-Some.price (omega (arith, c.loop-place-test.true, c.loop-place.auto.out)) c.loop-place.invariant.read next.0 within);
    }
