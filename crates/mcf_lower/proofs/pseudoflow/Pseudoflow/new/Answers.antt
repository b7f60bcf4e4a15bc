use Rattle.std.proofs.Common.{refl, arith}
use Rattle.std.proofs.lemmas.List.{with_items_is}
use Rattle.mcf_lower.proofs.Moves.{ArePseudoflow-at}
use Rattle.mcf_lower.proofs.Rooms.{IsBounded-first, IsPriced-first, IsBalanced-sums}
use Rattle.mcf_lower.proofs.pseudoflow.Pseudoflow.new.Goals as goal

pub sums-requires-clause-bounded : goal.sums-requires-clause-bounded
sums-requires-clause-bounded c =
    rw (c.deref-2.ensures.value) (IsBounded-first c.args.net.now c.deref.result.now c.in_ok-room.room.items c.nodes.ensures.network c.in_ok-room.ensures)

pub returns : goal.returns
returns c =
    let f = rw (c.deref.ensures.value) at c.in_ok-room.ensures in
    let s = rw (c.deref-2.ensures.value) at c.sums.ensures in
    ArePseudoflow-at c.args.net.now c.in_ok-room.room.items c.sums.new.supply c.sums.new.demand c.args.numbers.items _ _ _ _ _ _
    refl
    (with_items_is c.in_ok-supply.supply c.sums.new.supply (omega (arith, c.sums.auto.supply, c.deref_mut.ensures.len)))
    (with_items_is c.in_ok-demand.demand c.sums.new.demand (omega (arith, c.sums.auto.demand, c.deref_mut-2.ensures.len)))
    refl
    refl
    (record {
      supplies = s.supplies;
      demands = s.demands;
      priced = IsPriced-first c.args.net.now c.args.numbers.items c.in_ok-room.room.items c.requires.nodes f;
      bounded = IsBounded-first c.args.net.now c.args.numbers.items c.in_ok-room.room.items c.nodes.ensures.network f;
      balanced = IsBalanced-sums c.args.net.now c.in_ok-room.room.items c.sums.new.supply c.sums.new.demand s;
      small = λ v l. omega (arith, c.requires.small v (omega (arith, c.requires.nodes)));
      supplied = λ v l p. c.requires.small v (omega (arith, c.requires.nodes));
      back = rw (c.deref-3.ensures.value) at c.in_ok-backs.ensures;
    })
