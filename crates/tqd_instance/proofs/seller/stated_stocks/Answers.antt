use Rattle.std.proofs.Common.{◌∙◌, ap, length}
use Rattle.tqd_instance.specs.Rows.{first_value}
use Rattle.tqd_instance.proofs.Rows.{stock_goods_are, stocks_are_stated}
use Rattle.tqd_instance.proofs.seller.stated_stocks.Goals as goal

pub first_values-requires : goal.first_values-requires
first_values-requires c =
    rw (c.deref.ensures.value, c.in_ok-pairs.ensures, c.needs.ensures) (stock_goods_are c.args.parts.now c.args.i c.requires)

pub returns : goal.returns
returns c =
    let are = c.in_ok-stocks.ensures in
    record {
      width = are.width ∙ ap length c.needs.ensures;
      values = λ k k_in. are.values k (rw c.needs.ensures k_in) ∙ ap (λ ps. first_value ps k) (c.deref.ensures.value ∙ c.in_ok-pairs.ensures)
          ∙ stocks_are_stated c.args.parts.now c.args.i k;
    }
