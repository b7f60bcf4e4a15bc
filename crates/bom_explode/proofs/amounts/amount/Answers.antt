use Rattle.std.proofs.Common.{◌≡◌, ◌-◌, ◌<◌, get_or, min, arith, ap, ◌∙◌}
use Rattle.std.proofs.lemmas.List.{get_or_read}
use Rattle.bom_explode.specs.declared.amounts.TheConstants.{TOO_MANY}
use Rattle.bom_explode.specs.Structure.{structure_of}
use Rattle.bom_explode.specs.Solution.{need_of}
use Rattle.bom_explode.proofs.Amounting.{IsTotal-start, IsTotal-more}
use Rattle.bom_explode.proofs.amounts.amount.Goals as goal

pub loop-cursor-init : goal.loop-cursor-init
loop-cursor-init c =
    let s = structure_of c.args.bill.now in
    let ch = c.requires.chains in
    let read : c.index-cursor.result.now ≡ get_or c.args.up.now.first.items c.args.n 0 =
    get_or_read c.args.up.now.first.items c.args.n c.index-cursor.result.now (omega (arith, ch.firsts, c.requires.inside)) c.index-cursor.ensures 0 in
    record {
      kept = c.requires.kept;
      low = omega (arith, ch.first_most c.args.n c.requires.inside);
      into = λ p. ap (λ x. s.part (x - 1)) read ∙ ch.first_from c.args.n c.requires.inside (omega arith);
      small = omega (arith, c.ordered-total.ensures.within);
      so_far = rw read (IsTotal-start s c.args.up.now.first.items c.args.up.now.next.items c.args.n c.ordered-total.result c.requires.kept ch c.requires.inside
          c.ordered-total.ensures.value);
    }

pub loop-cursor-preserved : goal.loop-cursor-preserved
loop-cursor-preserved c =
    let s = structure_of c.args.bill.now in
    let ch = c.requires.chains in
    let i = c.loop-cursor.invariant in
    let l = c.loop-cursor.cursor - 1 in
    let inside : l < s.lines = omega (arith, i.low) in
    let read : c.index-cursor-in-loop-cursor.result.now ≡ get_or c.args.up.now.next.items l 0 =
    get_or_read c.args.up.now.next.items l c.index-cursor-in-loop-cursor.result.now (omega (arith, ch.nexts)) c.index-cursor-in-loop-cursor.ensures 0 in
    let into : s.part l ≡ c.args.n = i.into c.loop-cursor-test.true in
    let known : get_or c.args.amounts.now c.source-assembly.result.0 0 ≡ min (need_of s c.source-assembly.result.0) TOO_MANY =
    rw (c.source-assembly.ensures.assembly) (c.requires.known l inside into) in
    record {
      kept = c.requires.kept;
      low = omega (arith, ch.next_most l inside);
      into = λ p. ap (λ x. s.part (x - 1)) read ∙ ch.next_from l inside (omega arith) ∙ into;
      small = omega (arith, c.min-total.ensures);
      so_far = rw (read, c.min-total.ensures) (IsTotal-more s c.args.up.now.first.items c.args.up.now.next.items c.args.n c.loop-cursor.cursor c.loop-cursor.total
          c.source-assembly.result.0 c.source-assembly.result.1 (get_or c.args.amounts.now c.source-assembly.result.0 0) c.requires.kept ch
          c.loop-cursor-test.true i.low into c.source-assembly.ensures.assembly c.source-assembly.ensures.quantity known i.so_far);
    }
