use Rattle.bound_tree.proofs.SameRows.{has_both, has_not}
use Rattle.bound_tree.specs.OtherPlaces.{SamePlaces}
use Rattle.std.proofs.Common.{◌↔◌, IsTrue, ◌∙◌, ap, List, ℤ}
use Rattle.std.specs.Cmp.Lexicographic.{pointwise}
use Rattle.std.specs.Ordering.{int_eq}
use Rattle.bound_tree.proofs.slots.KeptRow.is.Goals as goal

pub returns-then-eq : goal.returns-then-eq
returns-then-eq c =
    let places : IsTrue c.same_places.result ↔ SamePlaces c.args.job.now c.args.self.now.area c.args.self.now.row.now.places c.args.area.now c.args.row.now.places =
    rw (c.places.ensures, c.places-then-eq.ensures) at c.same_places.ensures in
    has_both c.args.job.now c.args.self.now.area c.args.area.now c.args.self.now.row.now c.args.row.now c.eq.result c.same_places.result c.requires.of_job c.requires.fits
    (c.eq.ensures ∙ (ap (λ (xs : List ℤ). pointwise int_eq xs c.goods-2.result.now) c.goods.ensures ∙ ap (λ (xs : List ℤ). pointwise int_eq c.args.self.now.row.now.goods xs) c.goods-2.ensures))
    c.if-eq.true places

pub returns-else-eq : goal.returns-else-eq
returns-else-eq c =
    c.if-eq.false
    ∙ has_not c.args.job.now c.args.self.now.area c.args.area.now c.args.self.now.row.now c.args.row.now c.eq.result c.requires.of_job
    (c.eq.ensures ∙ (ap (λ (xs : List ℤ). pointwise int_eq xs c.goods-2.result.now) c.goods.ensures ∙ ap (λ (xs : List ℤ). pointwise int_eq c.args.self.now.row.now.goods xs) c.goods-2.ensures))
    c.if-eq.false
