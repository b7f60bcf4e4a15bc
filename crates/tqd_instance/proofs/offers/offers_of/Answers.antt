use Rattle.std.proofs.Common.{arith, rules, ◌≡◌, ◌∙◌, sym, ap, length, take, replicate, false}
use Rattle.std.proofs.lemmas.List.{get_or-replicate, take_all}
use Rattle.tqd_instance.specs.declared.parts.PriceRow.{PriceRow}
use Rattle.tqd_instance.specs.Rows.{offers_in}
use Rattle.tqd_instance.proofs.Rows.{rows_are, offers_are, offers_in-nil, offered_set}
use Rattle.tqd_instance.proofs.offers.offers_of.Goals as goal

pub loop-row-init : goal.loop-row-init
loop-row-init c =
    let goods = length c.args.parts.now.needs in
    let empty : c.in_ok-offered.offered.items ≡ replicate goods false = search rules in
    rw empty (record {
      width = search rules;
      values = λ k k_in. get_or-replicate goods k false false k_in ∙ sym (offers_in-nil k);
    })

pub index_mut-requires : goal.index_mut-requires
index_mut-requires c =
    let rows = rw (← c.requires.rows) at (rows_are c.args.parts.now c.args.i c.requires.formed) in
    let row = rows c.loop-row.row-index (record { supplier = 0; from = 0; good = 0; price = 0 }) c.loop-row-test.true in
    omega (arith, row.good, c.loop-row.invariant.width)

pub loop-row-preserved : goal.loop-row-preserved
loop-row-preserved c =
    let d : PriceRow = record { supplier = 0; from = 0; good = 0; price = 0 } in
    let rows = rw (← c.requires.rows) at (rows_are c.args.parts.now c.args.i c.requires.formed) in
    offered_set (length c.args.parts.now.needs) c.loop-row.row-index c.args.rows.now c.loop-row.offered.items d c.loop-row-test.true
    (rows c.loop-row.row-index d c.loop-row-test.true).good c.loop-row.invariant

pub returns : goal.returns
returns c =
    let i = c.loop-row.row-index in
    let all : take i c.args.rows.now ≡ c.args.rows.now = take_all i c.args.rows.now (omega arith) in
    record {
      width = c.loop-row.invariant.width;
      values = λ k k_in. c.loop-row.invariant.values k k_in ∙ ap (λ rows. offers_in rows k) (all ∙ c.requires.rows) ∙ offers_are c.args.parts.now c.args.i k;
    }
