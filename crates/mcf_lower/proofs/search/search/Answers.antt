use Rattle.std.proofs.Common.{◌≡◌, ◌<◌, ◌≤◌, ◌≢◌, get_or, ap, ◌∙◌, ⊎_elim, arith}
use Rattle.std.proofs.lemmas.Bool.{cases_lt, cases_eq}
use Rattle.std.proofs.lemmas.Grind.{common_steps}
use Rattle.mcf_lower.specs.declared.labels.TheConstants.{UNSETTLED}
use Rattle.mcf_lower.proofs.Trees.{set_other}
use Rattle.mcf_lower.proofs.Settling.{Tree-begun, IsClosed-begun, IsTree-settle, IsLast-settle, IsClosedBut-settle, unsettled, unsettled-le, unsettled-settle}
use Rattle.mcf_lower.proofs.search.search.Goals as goal

pub loop-v-init : goal.loop-v-init
loop-v-init c =
    let n = c.nodes.ensures.network in
    let b = c.begin.ensures in
    let p = c.args.flow.now in
    record {
      network = n;
      tree = Tree-begun c.args.net.now p.room.items p.numbers.items c.args.root c.begin.new.self c.requires.inside (rw (c.nodes.ensures.is) at b);
      keyed = b.keyed;
      places = omega (arith, b.places, c.nodes.ensures.is);
      root = b.root_is;
      closed = IsClosed-begun c.args.net.now p.room.items p.numbers.items c.args.root c.begin.new.self n (rw (c.nodes.ensures.is) at b);
      unsupplied = λ v l s. absurd (omega (arith, b.unsettled v (omega (arith, c.nodes.ensures.is))));
      count = omega (arith, b.settled, unsettled-le c.begin.new.self.rank.items, b.ranks, c.nodes.ensures.is);
    }

pub returns-then-index-gt0-clause-tree : goal.returns-then-index-gt0-clause-tree
returns-then-index-gt0-clause-tree c =
    let i = c.loop-v.invariant in
    let s = c.settle.ensures in
    let p = c.args.flow.now in
    rw (s.root, s.settled, s.distance, s.rank, s.parent, s.width)
    (IsTree-settle c.args.net.now p.room.items p.numbers.items _ _ _ _ _ _ c.in-Some.v i.network i.tree
    (rw (i.places) at c.in-Some.ensures) (omega (arith, i.count, i.network.few)))

pub returns-then-index-gt0-clause-answer : goal.returns-then-index-gt0-clause-answer
returns-then-index-gt0-clause-answer c =
    let i = c.loop-v.invariant in
    let s = c.settle.ensures in
    let p = c.args.flow.now in
    let l = c.loop-v.labels in
    let v = c.in-Some.v in
    let b = rw (i.places) at c.in-Some.ensures in
    let w : c.index.result.now ≡ get_or p.supply.items v 0 = grind (arith, common_steps) in
    record {
      last = rw (s.root, s.settled, s.distance, s.rank)
          (IsLast-settle c.args.net.now p.room.items p.numbers.items _ _ _ _ _ _ v i.tree b (omega (arith, i.count, i.network.few)));
      supplied = omega arith;
      closed = rw (s.distance, s.rank) (IsClosedBut-settle c.args.net.now p.room.items p.numbers.items l.distance.items l.rank.items v l.settled i.closed);
      nearest = λ u h q. rw (s.distance) (⊎_elim
          (λ (z : get_or l.rank.items u 0 < UNSETTLED). absurd (omega (arith, i.unsupplied u h z)))
          (λ (z : UNSETTLED ≤ get_or l.rank.items u 0). b.least u h (omega (arith, i.tree.most u h)))
          (cases_lt (get_or l.rank.items u 0) UNSETTLED));
    }

pub pull-requires-clause-tree : goal.pull-requires-clause-tree
pull-requires-clause-tree c =
    let i = c.loop-v.invariant in
    let s = c.settle.ensures in
    let p = c.args.flow.now in
    rw (c.deref.ensures.value, c.deref-in-Some.ensures.value, s.root, s.settled, s.distance, s.rank, s.parent, s.width)
    (IsTree-settle c.args.net.now p.room.items p.numbers.items _ _ _ _ _ _ c.in-Some.v i.network i.tree
    (rw (i.places) at c.in-Some.ensures) (omega (arith, i.count, i.network.few)))

pub pull-requires-clause-last : goal.pull-requires-clause-last
pull-requires-clause-last c =
    let i = c.loop-v.invariant in
    let s = c.settle.ensures in
    let p = c.args.flow.now in
    rw (c.deref-in-Some.ensures.value, s.root, s.settled, s.distance, s.rank)
    (IsLast-settle c.args.net.now p.room.items p.numbers.items _ _ _ _ _ _ c.in-Some.v i.tree (rw (i.places) at c.in-Some.ensures)
    (omega (arith, i.count, i.network.few)))

pub loop-v-preserved : goal.loop-v-preserved
loop-v-preserved c =
    let i = c.loop-v.invariant in
    let s = c.settle.ensures in
    let o = c.pull.ensures.offered in
    let p = c.args.flow.now in
    let l = c.loop-v.labels in
    let v = c.in-Some.v in
    let b = rw (i.places) at c.in-Some.ensures in
    let w : c.index.result.now ≡ get_or p.supply.items v 0 = grind (arith, common_steps) in
    let rank = o.rank ∙ s.rank in
    record {
      network = i.network;
      tree = rw (c.deref.ensures.value, c.deref-in-Some.ensures.value) at c.pull.ensures.tree;
      keyed = c.pull.ensures.keyed;
      places = o.places ∙ s.nodes ∙ i.places;
      root = o.root ∙ s.root ∙ i.root;
      closed = rw (c.deref.ensures.value, c.deref-in-Some.ensures.value) at c.pull.ensures.closed;
      unsupplied = λ u h r. ⊎_elim
          (λ (z : u ≡ v). let q = ap (λ x. get_or p.supply.items x 0) z in omega arith)
          (λ (z : u ≢ v). i.unsupplied u h (omega (arith, ap (λ x. get_or x u 0) rank, set_other l.rank.items v l.settled u z)))
          (cases_eq u v);
      count = omega (
        arith,
        i.count,
        o.count,
        s.settled,
        ap unsettled rank,
        unsettled-settle l.rank.items v l.settled (omega (arith, i.tree.ranks, b.inside)) b.unsettled (omega (arith, i.count, i.network.few)),
      );
    }
