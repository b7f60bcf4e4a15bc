use Rattle.std.proofs.Common.{◌≡◌, ◌+◌, ◌-◌, length, get_or, refl, arith}
use Rattle.bom_explode.specs.Structure.{structure_of}
use Rattle.bom_explode.specs.Order.{AreGathered}
use Rattle.bom_explode.specs.declared.structure.Way.TheVariants.{Up}
use Rattle.bom_explode.proofs.Structures.{IsStructure-along}
use Rattle.bom_explode.proofs.Ordering.{AreGathered-none, AreGathered-visited, AreComponents-gathered}
use Rattle.bom_explode.proofs.order.components.Goals as goal

pub loop-i-init : goal.loop-i-init
loop-i-init c = record {
  kept = c.in_ok-search.ensures.kept;
  idle = c.in_ok-search.ensures.idle;
  gathered = AreGathered-none (structure_of c.args.bill.now) c.args.order.now c.in_ok-search.search.mark.items (length c.args.order.now) (omega arith)
      (λ n b m. absurd (omega (arith, c.in_ok-search.ensures.nothing n b))) c.in_ok-search.ensures.kept;
}

pub loop-i-preserved : goal.loop-i-preserved
loop-i-preserved c =
    let s = structure_of c.args.bill.now in
    let i = c.loop-i.i - 1 in
    let next : i + 1 ≡ c.loop-i.i = omega arith in
    let h : AreGathered s c.args.order.now (i + 1) c.loop-i.search.mark.items = rw next c.loop-i.invariant.gathered in
    record {
      kept = c.loop-i.invariant.kept;
      idle = c.in_ok-visit.ensures.idle;
      gathered = AreGathered-visited s c.args.order.now i (get_or c.args.order.now i 0) c.loop-i.search.mark.items c.visit.new.self c.loop-i.invariant.kept
          c.requires.order (omega arith) refl h c.in_ok-visit.ensures.idle (IsStructure-along Up s c.loop-i.invariant.kept) c.in_ok-visit.ensures.visited;
    }

pub returns : goal.returns
returns c =
    let none : c.loop-i.i ≡ 0 = omega arith in
    AreComponents-gathered (structure_of c.args.bill.now) c.args.order.now c.loop-i.search.mark.items c.loop-i.invariant.kept c.requires.order
    c.loop-i.invariant.idle.searches.followed.names (rw none at c.loop-i.invariant.gathered)
