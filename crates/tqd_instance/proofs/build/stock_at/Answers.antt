use Rattle.std.proofs.Common.{arith, ◌≡◌, ◌∙◌, ap, length, get_or}
use Rattle.std.proofs.lemmas.List.{get_or_read}
use Rattle.tqd_instance.specs.declared.supplier.Supplier.{Supplier}
use Rattle.tqd_instance.specs.Offer.{no_supplier}
use Rattle.tqd_instance.specs.Built.{stock_of}
use Rattle.tqd_instance.proofs.Tables.{get_or-table}
use Rattle.tqd_instance.proofs.build.stock_at.Goals as goal

pub returns-clause-value : goal.returns-clause-value
returns-clause-value c =
    let suppliers = c.args.suppliers.now in
    let read : c.index-suppliers-i.result ≡ get_or suppliers c.args.i no_supplier =
    get_or_read suppliers c.args.i c.index-suppliers-i.result c.requires.supplier c.index-suppliers-i.is no_supplier in
    let built = c.requires.built c.args.i (omega (arith, c.requires.count)) in
    let stocks = c.stocks.ensures ∙ ap (λ (s : Supplier). s.stocks) read ∙ built.described.stocks in
    c.get.ensures ∙ ap (λ xs. get_or xs c.args.k 0) stocks ∙ get_or-table (length c.args.parts.now.needs) (stock_of c.args.parts.now c.args.i) c.args.k 0 c.requires.good
