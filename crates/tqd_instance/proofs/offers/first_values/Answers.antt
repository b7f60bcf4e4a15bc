use Rattle.std.proofs.Common.{arith, rules, None, get_or, ◌≡◌, ◌<◌, replicate, sym, ◌∙◌}
use Rattle.std.proofs.lemmas.List.{get_or_read, get_or-replicate}
use Rattle.tqd_instance.proofs.Rows.{values_set, values_kept, first_value-nil}
use Rattle.tqd_instance.proofs.offers.first_values.Goals as goal
use Rattle.tqd_instance.proofs.offers.first_values.Goals.{then-is_none, else-is_none}

pub loop-good-init : goal.loop-good-init
loop-good-init c =
    let empty : c.in_ok-values.values.items ≡ replicate c.args.goods None = search rules in
    rw empty (record {
      width = search rules;
      values = λ k k_in. get_or-replicate c.args.goods k None None k_in ∙ sym (first_value-nil k);
    })

pub loop-good-preserved : goal.loop-good-preserved
loop-good-preserved c =
    let pairs = c.args.pairs.now in
    let i = c.loop-good.good-index in
    let values = c.loop-good.values.items in
    let good = (get_or pairs i (0, 0)).0 in
    let in_goods : good < c.args.goods = c.requires i (0, 0) c.loop-good-test.true in
    let read : c.index.result.now ≡ get_or values good None =
    get_or_read values good c.index.result.now (omega (arith, c.loop-good.invariant.width)) c.index.ensures None in
    elim c.if-is_none.branch [
      | then-is_none w ↦ rw w.values-is (values_set c.args.goods i pairs values (0, 0) c.loop-good-test.true in_goods c.loop-good.invariant (rw (← read) w.if-is_none.ensures))
      | else-is_none w ↦ rw w.values-is (values_kept c.args.goods i pairs values (0, 0) c.loop-good-test.true in_goods c.loop-good.invariant (rw (← read) w.if-is_none.ensures))
    ]
