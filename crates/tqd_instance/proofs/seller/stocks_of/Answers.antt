use Rattle.std.proofs.Common.{arith, ◌≡◌, ◌∙◌, ◌<◌, refl, length, None, false, get_or}
use Rattle.std.proofs.lemmas.List.{get_or_read}
use Rattle.tqd_instance.specs.Built.{offers, stock_of}
use Rattle.tqd_instance.specs.Rows.{stock_stated}
use Rattle.tqd_instance.proofs.Rows.{stock_is}
use Rattle.tqd_instance.proofs.Tables.{table-more}
use Rattle.tqd_instance.proofs.seller.stocks_of.Goals as goal

pub loop-k-preserved : goal.loop-k-preserved
loop-k-preserved c =
    let parts = c.args.parts.now in
    let i = c.args.i in
    let k = c.loop-k.k in
    let k_in : k < length parts.needs = omega (arith, c.requires.offered.width) in
    let values = c.in_ok-stated.ensures in
    let read : c.index.result.now ≡ get_or c.in_ok-stated.stated.items k None =
    get_or_read c.in_ok-stated.stated.items k c.index.result.now (omega (arith, values.width)) c.index.ensures None in
    let stated : c.index.result.now ≡ stock_stated parts i k = read ∙ values.values k k_in in
    let offered : get_or c.args.offered.now k false ≡ offers parts i k = c.requires.offered.values k k_in in
    let value : c.stock_or.result ≡ stock_of parts i k = c.stock_or.ensures ∙ rw (offered, stated) (stock_is parts i k) in
    rw (c.in_ok-push.ensures.items, table-more k (stock_of parts i), value, c.loop-k.invariant) refl
