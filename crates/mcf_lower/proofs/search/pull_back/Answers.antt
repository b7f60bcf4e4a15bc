use Rattle.std.proofs.Common.{◌≡◌, ◌+◌, ◌-◌, ◌<◌, ◌≤◌, length, get_or, subst, sym, ap, ◌∙◌, inl, inr, arith, ⊎_elim}
use Rattle.std.proofs.lemmas.Bool.{cases_lt}
use Rattle.std.proofs.lemmas.Grind.{common_steps}
use Rattle.std.proofs.lemmas.List.{get_or_read}
use Rattle.mcf_lower.specs.declared.end.End.{End}
use Rattle.mcf_lower.specs.Net.{arc_of}
use Rattle.mcf_lower.specs.Ends.{end_of}
use Rattle.mcf_lower.specs.Tree.{IsMet}
use Rattle.mcf_lower.proofs.Offers.{IsOffered-join, Last-offered, IsMet-leaving, MeetsBack-taken}
use Rattle.mcf_lower.proofs.search.pull_back.Goals as goal

pub loop-cursor-preserved : goal.loop-cursor-preserved
loop-cursor-preserved c =
    let i = c.loop-cursor.invariant in
    let b = c.requires.backs.backs in
    let v = c.args.v in
    let o = c.offer.ensures in
    let k = c.loop-cursor.cursor - 1 in
    let n : c.index-cursor-in-loop-cursor.result.now ≡ get_or c.args.backs.now.next.items k 0 = grind (arith, common_steps) in
    let e : c.index.result.now ≡ end_of c.args.backs.now.ends.items k =
    get_or_read c.args.backs.now.ends.items k c.index.result.now (omega (arith, i.below)) c.index.ensures _ in
    record {
      tree = o.tree;
      keyed = o.keyed;
      last = Last-offered c.args.net.now c.args.numbers.now c.loop-cursor.labels c.offer.new.labels v i.last o.offered;
      offered = IsOffered-join c.args.net.now.nodes _ _ _ i.offered o.offered;
      below = omega (arith, n, b.chain.next_below k (omega (arith, i.below)), i.below);
      there = λ p. ap (λ x. (arc_of c.args.net.now (end_of c.args.backs.now.ends.items (x - 1)).arc).tail) n
          ∙ b.chain.next_there k (omega (arith, i.below)) (omega arith) ∙ i.there (omega arith);
      met = λ j l t low r. ⊎_elim
          (λ (z : c.loop-cursor.cursor ≤ j).
          IsMet-leaving c.args.net.now c.args.numbers.now c.loop-cursor.labels c.offer.new.labels v (end_of c.args.backs.now.ends.items j) c.requires.network
          o.offered i.last (rw t at (b.each j l)) (i.met j l t z r))
          (λ (z : j < c.loop-cursor.cursor). ⊎_elim
          (λ (y : j < k). absurd (omega (arith, n, b.chain.all_next j k y (omega (arith, i.below)) (t ∙ sym (i.there (omega arith))))))
          (λ (y : k ≤ j).
          let x : k ≡ j = omega arith in
          let w : c.index.result.now ≡ end_of c.args.backs.now.ends.items j = e ∙ ap (end_of c.args.backs.now.ends.items) x in
          let g = ap (λ (y : End). get_or c.args.room.now (y.arc + length c.args.net.now.arcs) 0) w in
          subst (λ (y : End). IsMet c.args.net.now c.args.numbers.now c.offer.new.labels.distance.items (y.arc + length c.args.net.now.arcs)) w
          (rw (c.arcs.ensures.is) at o.met (omega (arith, c.arcs.ensures.is))))
          (cases_lt j k))
          (⊎_elim (λ (z : j < c.loop-cursor.cursor). inr z) (λ (z : c.loop-cursor.cursor ≤ j). inl z) (cases_lt j c.loop-cursor.cursor));
    }

pub returns-clause-met : goal.returns-clause-met
returns-clause-met c =
    MeetsBack-taken c.args.net.now c.args.room.now c.args.numbers.now c.loop-cursor.labels.distance.items c.args.backs.now c.args.v c.requires.backs
    c.requires.last.inside (λ k l t r. c.loop-cursor.invariant.met k l t (omega arith) r)
