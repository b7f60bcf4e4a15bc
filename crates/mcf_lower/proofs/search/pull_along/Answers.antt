use Rattle.std.proofs.Common.{◌≡◌, ◌+◌, ◌<◌, ◌≤◌, get_or, subst, sym, ap, ◌∙◌, arith, ⊎_elim}
use Rattle.std.proofs.lemmas.Bool.{cases_lt}
use Rattle.std.proofs.lemmas.Grind.{common_steps}
use Rattle.std.proofs.lemmas.List.{get_or_read}
use Rattle.mcf_lower.specs.declared.end.End.{End}
use Rattle.mcf_lower.specs.Ends.{end_of, IsComing}
use Rattle.mcf_lower.specs.Tree.{IsMet}
use Rattle.mcf_lower.proofs.Offers.{IsOffered-join, Last-offered, IsMet-coming, MeetsAlong-taken}
use Rattle.mcf_lower.proofs.search.pull_along.Goals as goal

pub along-edge-requires-clause-coming : goal.along-edge-requires-clause-coming
along-edge-requires-clause-coming c =
    let ix = c.requires.index in
    let v = c.args.v in
    let low : c.index-p.result.now ≡ get_or c.args.index.now.starts.items v 0 = grind (arith, common_steps) in
    let high : c.index-p-end.result.now ≡ get_or c.args.index.now.starts.items (v + 1) 0 = grind (arith, common_steps) in
    let e : c.index.result.now ≡ end_of c.args.index.now.ends.items c.loop-p.p =
    get_or_read c.args.index.now.ends.items c.loop-p.p c.index.result.now (omega (arith, ix.within (v + 1) (omega (arith, c.requires.last.inside)))) c.index.ensures _ in
    subst (IsComing c.args.net.now v) (sym e) (ix.each v c.loop-p.p c.requires.last.inside (omega arith) (omega arith))

pub offer-requires-clause-last : goal.offer-requires-clause-last
offer-requires-clause-last c = rw (c.along-edge.ensures.finish) c.loop-p.invariant.last

pub loop-p-preserved : goal.loop-p-preserved
loop-p-preserved c =
    let i = c.loop-p.invariant in
    let ix = c.requires.index in
    let v = c.args.v in
    let o = c.offer.ensures in
    let high : c.index-p-end.result.now ≡ get_or c.args.index.now.starts.items (v + 1) 0 = grind (arith, common_steps) in
    let e : c.index.result.now ≡ end_of c.args.index.now.ends.items c.loop-p.p =
    get_or_read c.args.index.now.ends.items c.loop-p.p c.index.result.now (omega (arith, ix.within (v + 1) (omega (arith, c.requires.last.inside)))) c.index.ensures _ in
    record {
      tree = o.tree;
      keyed = o.keyed;
      last = Last-offered c.args.net.now c.args.numbers.now c.loop-p.labels c.offer.new.labels v i.last o.offered;
      offered = IsOffered-join c.args.net.now.nodes _ _ _ i.offered o.offered;
      met = λ q low far r. ⊎_elim
          (λ (z : q < c.loop-p.p).
          IsMet-coming c.args.net.now c.args.numbers.now c.loop-p.labels c.offer.new.labels v (end_of c.args.index.now.ends.items q) c.requires.network
          o.offered i.last (ix.each v q c.requires.last.inside low (omega arith)) (i.met q low z r))
          (λ (z : c.loop-p.p ≤ q).
          let y : c.loop-p.p ≡ q = omega arith in
          let w : c.index.result.now ≡ end_of c.args.index.now.ends.items q = e ∙ ap (end_of c.args.index.now.ends.items) y in
          let g = ap (λ (x : End). get_or c.args.room.now x.arc 0) w in
          subst (λ (x : End). IsMet c.args.net.now c.args.numbers.now c.offer.new.labels.distance.items x.arc) w (o.met (omega arith)))
          (cases_lt q c.loop-p.p);
    }

pub returns-clause-met : goal.returns-clause-met
returns-clause-met c =
    let v = c.args.v in
    let high : c.index-p-end.result.now ≡ get_or c.args.index.now.starts.items (v + 1) 0 = grind (arith, common_steps) in
    MeetsAlong-taken c.args.net.now c.args.room.now c.args.numbers.now c.loop-p.labels.distance.items c.args.index.now v c.requires.index
    c.requires.last.inside (λ q low far r. c.loop-p.invariant.met q low (omega arith) r)
