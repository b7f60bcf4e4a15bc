use Rattle.std.proofs.Common.{◌∙◌, ap}
use Rattle.tqd_instance.specs.Built.{segments_of}
use Rattle.tqd_instance.proofs.SupplierFacts.{supplier_built}
use Rattle.tqd_instance.proofs.seller.supplier_of.Goals as goal

pub returns-clause-built : goal.returns-clause-built
returns-clause-built c =
    rw c.new.ensures
    (supplier_built c.args.parts.now c.args.i c.in_ok-froms.froms.items _ c.requires.formed c.in_ok-froms.ensures c.fee_of.ensures c.in_ok-stocks.ensures
    (c.in_ok-segments.ensures ∙ ap (segments_of c.args.parts.now c.args.i) c.deref-7.ensures.value))
