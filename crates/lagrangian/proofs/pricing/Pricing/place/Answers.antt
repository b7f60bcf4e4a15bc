use Rattle.std.proofs.Common.{◌∙◌, ap, length, arith}
use Rattle.lagrangian.specs.declared.supplier.SupplierPrices.{SupplierPrices}
use Rattle.lagrangian.specs.Priced.{place_of}
use Rattle.lagrangian.specs.PricingState.{PricingState}
use Rattle.lagrangian.proofs.Finding.{place_got}
use Rattle.lagrangian.proofs.Values.{supplier_read, supplier_in_range}
use Rattle.lagrangian.proofs.pricing.Pricing.place.Goals as goal

pub returns-clause-value : goal.returns-clause-value
returns-clause-value c =
    let found = c.self.inside.found.items in
    let p = c.index.result.now in
    let same = ap (λ (s : PricingState). s.suppliers) c.self.view_is in
    let r = supplier_in_range _ c.args.i found p c.self.invariant.found_range (omega (arith, ap length same)) c.index.ensures in
    place_got p _ c.args.j c.from.result r c.from.ensures
    ∙ ap (λ (q : SupplierPrices). place_of q c.args.j) (supplier_read c.args.self.now c.args.i found p same c.requires.supplier c.index.ensures)
