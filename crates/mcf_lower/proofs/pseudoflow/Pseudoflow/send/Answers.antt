use Rattle.std.proofs.Common.{◌≡◌, get_or, refl, arith, ◌∙◌}
use Rattle.std.proofs.lemmas.Grind.{common_steps}
use Rattle.std.proofs.lemmas.List.{with_items_is}
use Rattle.mcf_lower.proofs.Trees.{set_length}
use Rattle.mcf_lower.proofs.Moves.{ArePseudoflow-at, IsBalanced-sent}
use Rattle.mcf_lower.proofs.Raising.{IsPriced-raised, IsPath-raised, small_raised, still_supplied}
use Rattle.mcf_lower.proofs.pseudoflow.Pseudoflow.send.Goals as goal

pub push-requires-clause-path : goal.push-requires-clause-path
push-requires-clause-path c =
    let d : c.index.result.now ≡ get_or c.args.labels.now.distance.items c.args.source 0 = grind (arith, common_steps) in
    let r = rw (c.deref_mut.ensures.value, c.deref.ensures.value, d) at c.raise.ensures in
    let w = with_items_is c.args.self.now.numbers c.raise.new.numbers (omega (arith, c.raise.auto.numbers, c.deref_mut.ensures.len)) in
    rw (c.deref_mut-2.ensures.value, c.deref-2.ensures.value ∙ w)
    (IsPath-raised c.args.net.now c.args.self.now.room.items c.args.self.now.supply.items c.args.self.now.numbers.items c.args.labels.now c.args.source c.raise.new.numbers
    c.requires.network c.requires.tree c.requires.found c.requires.pseudoflow.priced r)

pub push-requires-clause-priced : goal.push-requires-clause-priced
push-requires-clause-priced c =
    let d : c.index.result.now ≡ get_or c.args.labels.now.distance.items c.args.source 0 = grind (arith, common_steps) in
    let r = rw (c.deref_mut.ensures.value, c.deref.ensures.value, d) at c.raise.ensures in
    let w = with_items_is c.args.self.now.numbers c.raise.new.numbers (omega (arith, c.raise.auto.numbers, c.deref_mut.ensures.len)) in
    rw (c.deref_mut-2.ensures.value, c.deref-2.ensures.value ∙ w)
    (IsPriced-raised c.args.net.now c.args.self.now.room.items c.args.self.now.supply.items c.args.self.now.numbers.items c.args.labels.now c.args.source c.raise.new.numbers
    c.requires.network c.requires.tree c.requires.found c.requires.pseudoflow.priced r)

pub returns-clause-pseudoflow : goal.returns-clause-pseudoflow
returns-clause-pseudoflow c =
    let p = c.requires.pseudoflow in
    let f = c.requires.found in
    let d : c.index.result.now ≡ get_or c.args.labels.now.distance.items c.args.source 0 = grind (arith, common_steps) in
    let r = rw (c.deref_mut.ensures.value, c.deref.ensures.value, d) at c.raise.ensures in
    let w = with_items_is c.args.self.now.numbers c.raise.new.numbers (omega (arith, c.raise.auto.numbers, c.deref_mut.ensures.len)) in
    let x = rw (c.deref_mut-2.ensures.value) at c.in_ok-push.ensures.moved in
    let ms : c.index_mut.result.now ≡ get_or c.args.self.now.supply.items c.args.source 0 = grind (arith, common_steps) in
    let md : c.index_mut-2.result.now ≡ get_or c.args.self.now.demand.items c.args.labels.now.root 0 = grind (arith, common_steps) in
    let us : c.index-3.result.now ≡ get_or c.args.self.now.supply.items c.args.source 0 = grind (arith, common_steps) in
    let ud : c.index-4.result.now ≡ get_or c.args.self.now.demand.items c.args.labels.now.root 0 = grind (arith, common_steps) in
    let inside = f.last.inside in
    ArePseudoflow-at c.args.net.now c.push.new.room _ _ c.raise.new.numbers _ _ _ _ _ _
    (with_items_is c.args.self.now.room c.push.new.room (omega (arith, c.push.auto.room, c.deref_mut-2.ensures.len)))
    refl
    refl
    w
    refl
    (record {
      supplies = set_length _ c.args.source _ c.args.net.now.nodes p.supplies;
      demands = set_length _ c.args.labels.now.root _ c.args.net.now.nodes p.demands;
      priced = rw (c.deref-2.ensures.value ∙ w) at c.in_ok-push.ensures.priced;
      bounded = c.in_ok-push.ensures.bounded;
      back = c.in_ok-push.ensures.backs;
      balanced = IsBalanced-sent c.args.net.now c.args.self.now.room.items c.push.new.room c.args.self.now.supply.items c.args.self.now.demand.items
          c.args.source c.args.labels.now.root c.min-amount.result _ _ x p.supplies p.demands inside c.requires.tree.root_inside
          (omega (arith, ms, us)) (omega (arith, md, ud)) p.balanced;
      small = λ v l. omega (
        arith,
        r.each v (omega (arith, p.priced.nodes)),
        small_raised c.args.net.now c.args.self.now.room.items c.args.self.now.supply.items c.args.self.now.numbers.items c.args.labels.now c.args.source
            c.requires.tree c.requires.few f (p.supplied c.args.source inside f.supplied) v l (p.small v l),
      );
      supplied = λ v l q.
          let k = still_supplied c.args.self.now.supply.items c.args.source _ v f.supplied q in
          omega (arith, r.each v (omega (arith, p.priced.nodes)), p.supplied v l k, f.nearest v l k);
    })
