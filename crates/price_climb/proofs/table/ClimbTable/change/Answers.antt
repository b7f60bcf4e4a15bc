use Rattle.std.proofs.Common.{sym, subst, ◌∙◌, arith}
use Rattle.std.proofs.lemmas.Int.{ints, to_z-of_z}
use mir.Syntax.{w64}
use Rattle.bound_tree.specs.Prices.{IsPrice}
use Rattle.bound_tree.proofs.PriceReads.{price_fits}
use Rattle.price_climb.proofs.Untouched.{changed_items, table_after}
use Rattle.price_climb.proofs.table.ClimbTable.change.Goals as goal

pub invariant_of-self : goal.invariant_of-self
invariant_of-self c =
    let inside = c.self.inside in
    let price : IsPrice c.in-Some.price = subst IsPrice (sym c.in-Some.ensures.1) c.in-Some.ensures.0 in
    let passed = to_z-of_z w64 c.in-Some.price (price_fits c.in-Some.price price) in
    let items = changed_items inside.columns.len inside.columns.items c.deref_mut.result.now c.change_columns.new.columns
    c.deref_mut.ensures.value (sym c.deref_mut.ensures.len) (c.change_columns.ensures.count ∙ sym c.self.invariant.each.count) in
    table_after inside.job.now inside.area inside.row c.set_price.new.row c.args.place _ _ c.change_columns.new.columns _
    c.self.invariant.fitting (subst IsPrice (sym passed) price) c.set_price.ensures c.change_columns.ensures items
    (omega (arith, ints, c.goods_after-self-inside.ensures))
