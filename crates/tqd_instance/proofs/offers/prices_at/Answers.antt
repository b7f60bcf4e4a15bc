use Rattle.std.proofs.Common.{◌==◌, ◌∙◌, ap, length, map, filter, List}
use Rattle.tqd_instance.specs.declared.parts.PriceRow.{PriceRow}
use Rattle.tqd_instance.specs.Rows.{first_value}
use Rattle.tqd_instance.proofs.Rows.{goods_are, prices_are_stated}
use Rattle.tqd_instance.proofs.offers.prices_at.Goals as goal

pub first_values-requires : goal.first_values-requires
first_values-requires c =
    rw (c.deref.ensures.value, c.in_ok-pairs.ensures, c.needs.ensures)
    (goods_are c.args.parts.now c.args.i c.args.from c.args.rows.now c.requires.formed c.requires.rows)

pub returns : goal.returns
returns c =
    let are = c.in_ok-prices.ensures in
    let pairs = c.deref.ensures.value ∙ c.in_ok-pairs.ensures in
    record {
      width = are.width ∙ ap length c.needs.ensures;
      values = λ k k_in. are.values k (rw c.needs.ensures k_in) ∙ ap (λ ps. first_value ps k) pairs
          ∙ ap (λ (rows : List PriceRow). first_value (map (λ r. (r.good, r.price)) (filter (λ r. r.from == c.args.from) rows)) k) c.requires.rows
          ∙ prices_are_stated c.args.parts.now c.args.i c.args.from k;
    }
