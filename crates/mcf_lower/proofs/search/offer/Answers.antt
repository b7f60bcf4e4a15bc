use Rattle.std.proofs.Common.{◌≡◌, ◌+◌, ◌<◌, ◌≤◌, get_or, refl, sym, subst, arith}
use Rattle.std.proofs.lemmas.Grind.{common_steps}
use Rattle.mcf_lower.specs.declared.edge.Edge.{Edge}
use Rattle.mcf_lower.specs.Tree.{Last}
use Rattle.mcf_lower.proofs.Trees.{IsTree-offer, unsettled-offer}
use Rattle.mcf_lower.proofs.Keys.{AreKeyed-label}
use Rattle.mcf_lower.proofs.Offers.{IsOffered-label}
use Rattle.mcf_lower.proofs.search.offer.Goals as goal

pub returns-clause-tree : goal.returns-clause-tree
returns-clause-tree c =
    let edge = c.args.edge in
    let l = c.args.labels.now in
    let last = subst (λ (x : Edge). Last c.args._net.now c.args.numbers.now c.args.labels.now x.finish) c.requires.edge c.requires.last in
    let near = c.requires.tree.near edge.finish c.requires.ends.finish (c.requires.tree.settled edge.finish c.requires.ends.finish c.requires.last.settled) in
    let width : c.index-3.result.now ≡ get_or l.width.items edge.finish 0 = grind (arith, common_steps) in
    let room : 0 < get_or c.args.room.now c.args.e 0 = grind (arith, common_steps) in
    let priced = subst (λ (x : Edge). get_or c.args.numbers.now x.finish 0 + x.minus ≤ get_or c.args.numbers.now x.start 0 + x.plus) (sym c.requires.edge)
    (c.requires.priced.each c.args.e c.requires.inside room) in
    IsTree-offer c.args._net.now c.args.room.now c.args.numbers.now _ _ _ _ _ _ c.args.edge c.args.e _ _
    c.requires.edge c.requires.network c.requires.tree c.requires.priced last c.requires.inside room
    (grind (arith, common_steps)) (grind (arith, common_steps))
    (omega (arith, near.wide, width)) (omega arith) (omega (arith, width))

pub returns-clause-keyed : goal.returns-clause-keyed
returns-clause-keyed c =
    let room : 0 < get_or c.args.room.now c.args.e 0 = grind (arith, common_steps) in
    let priced = subst (λ (x : Edge). get_or c.args.numbers.now x.finish 0 + x.minus ≤ get_or c.args.numbers.now x.start 0 + x.plus) (sym c.requires.edge)
    (c.requires.priced.each c.args.e c.requires.inside room) in
    let s = c.set.ensures in
    let un = unsettled-offer c.args._net.now c.args.room.now c.args.numbers.now _ _ _ _ _ _ c.args.edge c.args.e c.saturating_sub-distance.result
    c.requires.edge c.requires.tree c.requires.priced c.requires.last c.requires.inside room c.requires.ends.start
    (grind (arith, common_steps)) (grind (arith, common_steps)) in
    AreKeyed-label c.args.labels.now.distance.items c.args.labels.now.rank.items c.args.labels.now.keys c.set.new.self c.args.edge.start c.saturating_sub-distance.result
    c.requires.keyed (record { tournament = s.tournament; places = s.places; here = s.set; others = s.others })
    (omega (arith, c.requires.tree.distances, c.requires.ends.start)) un

pub returns-clause-offered : goal.returns-clause-offered
returns-clause-offered c =
    let room : 0 < get_or c.args.room.now c.args.e 0 = grind (arith, common_steps) in
    let priced = subst (λ (x : Edge). get_or c.args.numbers.now x.finish 0 + x.minus ≤ get_or c.args.numbers.now x.start 0 + x.plus) (sym c.requires.edge)
    (c.requires.priced.each c.args.e c.requires.inside room) in
    let un = unsettled-offer c.args._net.now c.args.room.now c.args.numbers.now _ _ _ _ _ _ c.args.edge c.args.e c.saturating_sub-distance.result
    c.requires.edge c.requires.tree c.requires.priced c.requires.last c.requires.inside room c.requires.ends.start
    (grind (arith, common_steps)) (grind (arith, common_steps)) in
    IsOffered-label c.args._net.now.nodes c.args.labels.now _ c.args.edge.start c.saturating_sub-distance.result refl refl refl c.set.ensures.places refl
    (omega (arith, c.requires.tree.distances, c.requires.ends.start)) (grind (arith, common_steps)) un
