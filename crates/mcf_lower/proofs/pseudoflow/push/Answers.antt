use Rattle.std.proofs.Common.{◌≡◌, ◌-◌, get_or, refl, arith, ap, sym, ◌∙◌}
use Rattle.std.proofs.lemmas.Grind.{common_steps}
use Rattle.mcf_lower.specs.declared.edge.Edge.{Edge}
use Rattle.mcf_lower.specs.Edges.{edges, edge_of}
use Rattle.mcf_lower.proofs.Trees.{set_other, set_length}
use Rattle.mcf_lower.proofs.Moves.{partner_of-inside, IsMoved-set, ListsBacks-moved, pair_most, IsBounded-moved, IsPriced-moved, BalanceMoves-moved, takes_after}
use Rattle.mcf_lower.proofs.pseudoflow.push.Goals as goal

pub bounds-room-back : goal.bounds-room-back
bounds-room-back c =
    let i = c.loop-v.invariant in
    let e : c.index-e.result.now ≡ get_or c.args.labels.now.parent.items c.loop-v.v 0 = grind (arith, common_steps) in
    let s = rw (← e) at (c.requires.path.step c.loop-v.v i.inside i.near c.loop-v-test.true) in
    omega (arith, set_length c.loop-v.room c.index-e.result.now (get_or c.loop-v.room c.index-e.result.now 0 - c.args.amount) (edges c.args.net.now) i.bounded.rooms, (partner_of-inside c.args.net.now c.index-e.result.now s.inside).1, c.partner-back.ensures.is)

pub bounds-room-back-in-loop-v : goal.bounds-room-back-in-loop-v
bounds-room-back-in-loop-v c =
    let i = c.loop-v.invariant in
    let e : c.index-e.result.now ≡ get_or c.args.labels.now.parent.items c.loop-v.v 0 = grind (arith, common_steps) in
    let s = rw (← e) at (c.requires.path.step c.loop-v.v i.inside i.near c.loop-v-test.true) in
    omega (arith, set_length c.loop-v.room c.index-e.result.now (get_or c.loop-v.room c.index-e.result.now 0 - c.args.amount) (edges c.args.net.now) i.bounded.rooms, (partner_of-inside c.args.net.now c.index-e.result.now s.inside).1, c.partner-back.ensures.is)

pub overflow_add-room : goal.overflow_add-room
overflow_add-room c =
    let i = c.loop-v.invariant in
    let e : c.index-e.result.now ≡ get_or c.args.labels.now.parent.items c.loop-v.v 0 = grind (arith, common_steps) in
    let s = rw (← e) at (c.requires.path.step c.loop-v.v i.inside i.near c.loop-v-test.true) in
    let t = rw (← e) at (i.takes c.loop-v.v i.inside (omega arith) i.near c.loop-v-test.true) in
    let n : c.partner-back.result ≡ c.index-e.result.now → ⊥ = λ z. (partner_of-inside c.args.net.now c.index-e.result.now s.inside).0 (sym c.partner-back.ensures.is ∙ z) in
    let p = ap (λ x. get_or c.loop-v.room x 0) c.partner-back.ensures.is in
    omega (
      arith,
      set_other c.loop-v.room c.index-e.result.now (get_or c.loop-v.room c.index-e.result.now 0 - c.args.amount) c.partner-back.result n,
      pair_most c.args.net.now c.loop-v.room c.index-e.result.now c.partner-back.ensures.network i.bounded s.inside,
      i.wide,
      t,
    )

pub loop-v-preserved : goal.loop-v-preserved
loop-v-preserved c =
    let i = c.loop-v.invariant in
    let e : c.index-e.result.now ≡ get_or c.args.labels.now.parent.items c.loop-v.v 0 = grind (arith, common_steps) in
    let s = rw (← e) at (c.requires.path.step c.loop-v.v i.inside i.near c.loop-v-test.true) in
    let t = rw (← e) at (i.takes c.loop-v.v i.inside (omega arith) i.near c.loop-v-test.true) in
    let m = IsMoved-set c.args.net.now c.loop-v.room c.index-e.result.now c.partner-back.result c.args.amount _ _ i.bounded.rooms s.inside c.partner-back.ensures.is
    (omega (arith, i.wide, t)) refl refl in
    let f : c.of-v.result.finish ≡ (edge_of c.args.net.now c.index-e.result.now).finish = ap (λ (x : Edge). x.finish) c.of-v.ensures.is in
    let g : c.of-v.result.finish ≡ (edge_of c.args.net.now (get_or c.args.labels.now.parent.items c.loop-v.v 0)).finish = f ∙ ap (λ x. (edge_of c.args.net.now x).finish) e in
    let b = rw (s.start, ← f) at (BalanceMoves-moved c.args.net.now c.loop-v.room c.index-e.result.now c.partner-back.result c.args.amount _ m) in
    let w = ap (λ x. get_or c.args.labels.now.width.items x 0) f in
    let d = ap (λ x. get_or c.args.labels.now.distance.items x 0) f in
    let r = ap (λ x. get_or c.args.labels.now.rank.items x 0) g in
    let p = ap (λ x. get_or c.args.numbers.now x 0) s.start in
    record {
      inside = c.of-v.ensures.inside.finish;
      near = omega (arith, s.nearer, d);
      wide = omega (arith, s.narrower, i.wide, w);
      priced = IsPriced-moved c.args.net.now c.args.numbers.now c.loop-v.room c.index-e.result.now c.partner-back.result c.args.amount _ m c.requires.some
          (omega (arith, s.even, p)) i.priced;
      backs = ListsBacks-moved c.args.net.now c.loop-v.room c.index-e.result.now c.partner-back.result c.args.amount _ c.loop-v.backs c.list.new.self
          m i.backs c.in_ok-list.ensures.backs c.in_ok-list.ensures.kept c.in_ok-list.ensures.listed;
      bounded = IsBounded-moved c.args.net.now c.loop-v.room c.index-e.result.now c.partner-back.result c.args.amount _ m i.bounded;
      takes = λ x l k h n. takes_after c.args.net.now c.args.numbers.now c.loop-v.room c.args.labels.now _ c.loop-v.v c.index-e.result.now c.partner-back.result c.args.amount _
          m e c.args.room.now c.requires.path i.inside i.near c.loop-v-test.true i.takes x l (omega arith) h n;
      moved = λ supply demand h. b supply demand (i.moved supply demand h);
    }
