use Rattle.std.proofs.Common.{◌+◌, sym, subst, arith, length, take, take_all}
use Rattle.std.proofs.lemmas.List.Sorted.{IsPermutation-refl, IsPermutation-trans, length_permutation}
use Rattle.lagrangian.proofs.Reaching.{IsWindow, window_begins, window_under, window_low, window_high, window_long, tried_at, reached_at, units_under-few}
use Rattle.lagrangian.proofs.level.level_reaching.Goals.{then-wanted-under, else-wanted-under+else-wanted-up_to}
use Rattle.lagrangian.proofs.level.level_reaching.Goals as goal

pub select-init : goal.select-init
select-init c =
    let all = c.args.offers.now in
    let whole = take_all (length all) all (omega arith) in
    record {
      same = IsPermutation-refl all;
      size = omega arith;
      window = subst (IsWindow all c.args.wanted 0 8000000000000000 0) (sym whole) (window_begins all c.args.wanted c.requires.some c.requires.enough);
    }

pub bounds-offers-len : goal.bounds-offers-len
bounds-offers-len c =
    let i = c.select.invariant in
    window_long c.args.offers.now c.args.wanted c.select.from c.select.to c.select.below c.select.len c.select.offers i.window i.size

pub overflow_add-under : goal.overflow_add-under
overflow_add-under c =
    let i = c.select.invariant in
    let all = c.args.offers.now in
    let o = c.index-offers-len.result in
    let at = tried_at all c.args.wanted c.select.from c.select.to c.select.below c.select.len c.select.offers o i.window i.size c.index-offers-len.is in
    let under = window_under all c.args.wanted c.select.from c.select.to c.select.below o.level (take c.select.len c.select.offers) i.window at.0 (omega (arith, at.1)) in
    omega (arith, c.units_under.ensures.value, units_under-few o.level all)

pub overflow_add-up_to : goal.overflow_add-up_to
overflow_add-up_to c =
    let i = c.select.invariant in
    let all = c.args.offers.now in
    let o = c.index-offers-len.result in
    let at = tried_at all c.args.wanted c.select.from c.select.to c.select.below c.select.len c.select.offers o i.window i.size c.index-offers-len.is in
    let up_to = window_under all c.args.wanted c.select.from c.select.to c.select.below (o.level + 1) (take c.select.len c.select.offers) i.window (omega (arith, at.0)) (omega (arith, at.1)) in
    omega (arith, c.units_under-else-wanted-under.ensures.value, units_under-few (o.level + 1) all)

pub returns-then-wanted-up_to-clause-reached : goal.returns-then-wanted-up_to-clause-reached
returns-then-wanted-up_to-clause-reached c =
    let i = c.select.invariant in
    let all = c.args.offers.now in
    let o = c.index-offers-len.result in
    let at = tried_at all c.args.wanted c.select.from c.select.to c.select.below c.select.len c.select.offers o i.window i.size c.index-offers-len.is in
    let under = window_under all c.args.wanted c.select.from c.select.to c.select.below o.level (take c.select.len c.select.offers) i.window at.0 (omega (arith, at.1)) in
    let up_to = window_under all c.args.wanted c.select.from c.select.to c.select.below (o.level + 1) (take c.select.len c.select.offers) i.window (omega (arith, at.0)) (omega (arith, at.1)) in
    reached_at c.args.wanted o.level all (omega (arith, o.below_top)) (omega (arith, c.units_under.ensures.value, c.if-wanted-under.false))
    (omega (arith, c.units_under-else-wanted-under.ensures.value, c.if-wanted-up_to.true))

pub select-smaller : goal.select-smaller
select-smaller c =
    let i = c.select.invariant in
    let o = c.index-offers-len.result in
    let at = tried_at c.args.offers.now c.args.wanted c.select.from c.select.to c.select.below c.select.len c.select.offers o i.window i.size c.index-offers-len.is in
    elim c.if-wanted-under.branch [
      | then-wanted-under w ↦ omega (arith, at.0, at.1, w.from-is, w.to-is)
      | else-wanted-under+else-wanted-up_to w ↦ omega (arith, at.0, at.1, w.from-is, w.to-is)
    ]

pub select-preserved : goal.select-preserved
select-preserved c =
    let i = c.select.invariant in
    let all = c.args.offers.now in
    let o = c.index-offers-len.result in
    let inside = take c.select.len c.select.offers in
    let next = take c.keep_between-len.result c.keep_between-len.new.offers in
    let e = c.keep_between-len.ensures in
    let at = tried_at all c.args.wanted c.select.from c.select.to c.select.below c.select.len c.select.offers o i.window i.size c.index-offers-len.is in
    let under = window_under all c.args.wanted c.select.from c.select.to c.select.below o.level inside i.window at.0 (omega (arith, at.1)) in
    let up_to = window_under all c.args.wanted c.select.from c.select.to c.select.below (o.level + 1) inside i.window (omega (arith, at.0)) (omega (arith, at.1)) in
    record {
      same = IsPermutation-trans all c.select.offers c.keep_between-len.new.offers i.same e.same;
      size = omega (arith, length_permutation c.select.offers c.keep_between-len.new.offers e.same, e.few, i.size);
      window = elim c.if-wanted-under.branch [
        | then-wanted-under w ↦
            rw (w.from-is, w.to-is, w.below-is)
            (window_low all c.args.wanted c.select.from c.select.to c.select.below o.level inside next i.window at.0 at.1
            (omega (arith, c.units_under.ensures.value, w.if-wanted-under.true)) (rw (w.from-is, w.to-is) at e.kept))
        | else-wanted-under+else-wanted-up_to w ↦
            rw (w.from-is, w.to-is, w.below-is)
            (window_high all c.args.wanted c.select.from c.select.to c.select.below o.level (c.select.below + w.units_under-else-wanted-under.result) inside next i.window at.0 at.1
            (omega (arith, w.units_under-else-wanted-under.ensures.value)) (omega (arith, w.if-wanted-up_to.false)) (rw (w.from-is, w.to-is) at e.kept))
      ];
    }
