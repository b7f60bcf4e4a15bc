use Rattle.std.proofs.Common.{◌≡◌, ◌-◌, get_or, arith, ap, ◌∙◌}
use Rattle.std.proofs.lemmas.Grind.{common_steps}
use Rattle.mcf_lower.specs.Net.{arc_of}
use Rattle.mcf_lower.proofs.Ends.{AreAddedFrom-first, AreAddedFrom-next, AreAdded-from}
use Rattle.mcf_lower.proofs.index.Chains.add_to.Goals as goal

pub loop-cursor-init : goal.loop-cursor-init
loop-cursor-init c =
    let h = c.requires.chains in
    let e : c.index-cursor.result.now ≡ get_or c.args.self.now.first.items c.args.v 0 = grind (arith, common_steps) in
    record {
      added = AreAddedFrom-first c.args.net.now c.args.v c.index-cursor.result.now c.args.ends.now.items c.args.self.now.first.items c.args.self.now.next.items h e;
      below = omega (arith, e, h.first_below c.args.v c.requires.inside);
      there = λ p. ap (λ x. (arc_of c.args.net.now (x - 1)).head) e ∙ h.first_there c.args.v c.requires.inside (omega arith);
    }

pub loop-cursor-preserved : goal.loop-cursor-preserved
loop-cursor-preserved c =
    let h = c.requires.chains in
    let i = c.loop-cursor.invariant in
    let a = c.loop-cursor.cursor - 1 in
    let n : c.index-cursor-in-loop-cursor.result.now ≡ get_or c.args.self.now.next.items a 0 = grind (arith, common_steps) in
    record {
      added = AreAddedFrom-next c.args.net.now c.args.v c.loop-cursor.cursor _ c.args.ends.now.items c.loop-cursor.ends.items c.push.new.self.items c.coming.result
          c.args.self.now.first.items c.args.self.now.next.items h (omega arith) i.below (i.there (omega arith)) n c.coming.ensures.arc c.coming.ensures.coming
          c.in_ok-push.ensures.items i.added;
      below = omega (arith, n, h.next_below a (omega (arith, i.below)), i.below);
      there = λ p. ap (λ x. (arc_of c.args.net.now (x - 1)).head) n ∙ h.next_there a (omega (arith, i.below)) (omega arith) ∙ i.there (omega arith);
    }

pub returns : goal.returns
returns c = AreAdded-from c.args.net.now c.args.v c.loop-cursor.cursor c.args.ends.now.items c.loop-cursor.ends.items (omega arith) c.loop-cursor.invariant.added
