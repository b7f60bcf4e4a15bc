use Rattle.std.proofs.Common.{length, sym, ap, ◌∙◌, subst}
use Rattle.offer_reader.specs.Book.{IsBook}
use Rattle.offer_reader.specs.Terms.{book_with}
use Rattle.offer_reader.proofs.TermsFormed.{terms_formed}
use Rattle.offer_reader.proofs.terms.read_terms.Goals as goal

pub with_terms-requires : goal.with_terms-requires
with_terms-requires c =
    let book = c.args.book in
    let formed = terms_formed (record { names = c.names.result.now; goods = c.args.needs.now.goods }) book c.in_ok-table.table c.in_ok-terms.terms.items (subst IsBook c.book.view_is c.book.invariant)
    c.requires.no_terms (sym (ap length c.requires.needs ∙ c.goods.ensures.kept.as_many)) c.in_ok-terms.ensures in
    subst (λ terms. IsBook (book_with book terms)) (sym c.deref.ensures.value) formed
