use Rattle.std.proofs.Common.{refl, sym, ap, subst}
use Rattle.offer_reader.specs.Offers.{Wanted}
use Rattle.offer_reader.specs.Reading.{PricesData}
use Rattle.offer_reader.specs.Steps.{ReadingData, HasOffers}
use Rattle.offer_reader.proofs.BookFormed.{book_from}
use Rattle.offer_reader.proofs.offers.read_offers.Goals as goal

pub invariant_of-result : goal.invariant_of-result
invariant_of-result c =
    let wanted : Wanted = record { names = c.names.result.now; goods = c.args.needs.now.goods } in
    let reading : ReadingData = record { sellers = c.reading.inside.sellers; offered = c.reading.inside.offered; goods = c.reading.inside.goods; keys = c.reading.inside.keys.keys } in
    book_from wanted c.args.needs.now c.in_ok-table.table reading c.prices.inside.suppliers c.in-Ok.parts c.goods.ensures.kept refl
    (subst (λ (r : ReadingData). HasOffers wanted c.in_ok-table.table r) (sym c.reading.view_is) c.in_ok-reading.ensures)
    (ap (λ (p : PricesData). p.suppliers) c.prices.view_is)
    c.in-Ok.ensures
