use Rattle.std.proofs.Common.{◌+◌, ◌∙◌, ap, sym, refl, subst}
use Rattle.bound_tree.specs.Prices.{price_at}
use Rattle.lagrangian.proofs.PriceReads.{worth_read, less_from, not_less_from}
use Rattle.lagrangian.proofs.FirstLeast.{IsFirstLeastTo, first_alone, next_is_less, next_is_not_less}
use Rattle.lagrangian.proofs.supplier.first_least.Goals.{then-worths-from, else-worths-from}
use Rattle.lagrangian.proofs.supplier.first_least.Goals as goal

pub loop-j-init : goal.loop-j-init
loop-j-init c = first_alone (price_at c.args.worths.now) c.args.low (c.args.low + 1) refl

pub loop-j-preserved : goal.loop-j-preserved
loop-j-preserved c =
    let worths = c.args.worths.now in
    let inv = c.loop-j.invariant in
    let next = worth_read worths c.from.result c.requires.in_range ∙ ap (price_at worths) c.from.ensures in
    let least = worth_read worths c.from-in-loop-j.result c.requires.in_range ∙ ap (price_at worths) c.from-in-loop-j.ensures in
    elim c.if-worths-from.branch [
      | then-worths-from w ↦
          subst (IsFirstLeastTo (price_at worths) c.args.low (c.loop-j.j + 1)) (sym w.least-is)
          (next_is_less (price_at worths) c.args.low c.loop-j.j c.loop-j.least (less_from _ _ (price_at worths c.loop-j.j) (price_at worths c.loop-j.least) next least w.if-worths-from.true) inv)
      | else-worths-from w ↦
          subst (IsFirstLeastTo (price_at worths) c.args.low (c.loop-j.j + 1)) (sym w.least-is)
          (next_is_not_less (price_at worths) c.args.low c.loop-j.j c.loop-j.least (not_less_from _ _ (price_at worths c.loop-j.j) (price_at worths c.loop-j.least) next least w.if-worths-from.false) inv)
    ]
