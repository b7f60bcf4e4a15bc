use Rattle.std.proofs.Common.{◌≡◌, ◌<◌, get_or, arith, ◌∙◌}
use Rattle.std.proofs.lemmas.List.{get_or_read}
use Rattle.bom_explode.specs.Structure.{structure_of}
use Rattle.bom_explode.specs.Solution.{need_of}
use Rattle.bom_explode.proofs.Collecting.{AreGoodsBelow-good, AreGoodsBelow-other, IsGood-tested, has_lines, has_no_need, amount_is, IsNeeded-counted}
use Rattle.bom_explode.proofs.needs.Needs.of.Goals as goal
use Rattle.bom_explode.proofs.needs.Needs.of.Goals.{then-index-eq0+then-amount-gt0+in_ok-push+in_ok-push-2, else-index-eq0, else-index-eq0-via-then-index-eq0+else-amount-gt0, else-index-eq0-via-else-index-eq0}

pub loop-n-preserved : goal.loop-n-preserved
loop-n-preserved c =
    let s = structure_of c.args.bill.now in
    let n = c.loop-n.n in
    let i = c.loop-n.invariant in
    let first = c.args.down.now.first.items in
    let next = c.args.down.now.next.items in
    let amounts = c.args.amounts.now in
    let inside : n < s.names = omega (arith, i.count) in
    let read : c.index.result.now ≡ get_or first n 0 = get_or_read first n c.index.result.now (omega (arith, c.requires.chains.firsts)) c.index.ensures 0 in
    let counted = c.requires.counted n inside in
    record {
      count = i.count;
      so_far = elim c.if-index-eq0.branch [
        | then-index-eq0+then-amount-gt0+in_ok-push+in_ok-push-2 w ↦ rw (w.goods-is, w.units-is, w.in_ok-push.ensures.items, w.in_ok-push-2.ensures.items)
            (AreGoodsBelow-good s (need_of s) n (get_or amounts n 0) c.loop-n.goods.items c.loop-n.units.items i.so_far
            (IsGood-tested s first next amounts n c.requires.chains c.requires.amounts inside counted (omega arith) w.if-amount-gt0.true)
            (amount_is s first next amounts n c.requires.chains c.requires.amounts inside counted))
        | else-index-eq0 w ↦ rw (w.goods-is, w.units-is)
            (AreGoodsBelow-other s (need_of s) n c.loop-n.goods.items c.loop-n.units.items i.so_far (elim w.else-index-eq0.branch [
              | else-index-eq0-via-then-index-eq0+else-amount-gt0 w' ↦ has_no_need s first next amounts n c.requires.chains c.requires.amounts inside counted (omega arith)
              | else-index-eq0-via-else-index-eq0 w' ↦ has_lines s first next amounts n c.requires.chains c.requires.amounts inside counted (λ e. w'.if-index-eq0.false (read ∙ e))
            ]))
      ];
    }

pub invariant_of-result : goal.invariant_of-result
invariant_of-result c =
    let i = c.loop-n.invariant in
    IsNeeded-counted (structure_of c.args.bill.now) c.loop-n.n c.loop-n.goods.items c.loop-n.units.items c.names-n-end.ensures.kept (omega (arith, i.count))
    c.requires.counted i.so_far
