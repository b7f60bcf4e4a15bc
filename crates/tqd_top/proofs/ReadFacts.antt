-- What holds of offers and terms that files state, and so of the names that a fault of the job tells.
use Rattle.std.proofs.Common.{ℕ, ◌≡◌, ◌<◌, Bool, true, false, List, [], ◌∷◌, length, Option, None, Some, refl, sym, ◌∙◌, ap, subst, arith}
use Rattle.std.proofs.lemmas.Grind.{get_or_default_zero}
use Rattle.std.proofs.lemmas.List.Elements.{All-get_or}
use Rattle.std.specs.Prelude.{Result, Ok, Err, All, fold, slice_index, nat_lt, if◌then◌else◌}
use Rattle.std.specs.Result.{result_map_both}
use Rattle.tqd_base.specs.declared.limits.TheConstants.{FILE_MAX}
use Rattle.tqd_base.specs.World.{World, Name, Bytes}
use Rattle.bom_reader.specs.Bill.{BillData}
use Rattle.bom_reader.specs.Faults.{and_then}
use Rattle.bom_explode.specs.Structure.{structure_of}
use Rattle.bom_explode.specs.Needs.{Needed}
use Rattle.bom_explode.specs.Explosion.{Explodes}
use Rattle.offer_reader.specs.Book.{BookData, IsBook, HasNoTerms, book_in, book_of}
use Rattle.offer_reader.specs.Offers.{OffersData, Wanted, checked_offers, offer_rows}
use Rattle.offer_reader.specs.Terms.{book_with, checked_terms, term_rows, terms_in, with_term}
use Rattle.offer_reader.specs.declared.fault.OfferFault.{OfferFault}
use Rattle.offer_reader.specs.declared.term_fault.TermFault.{TermFault}
use Rattle.bom_reader.specs.Rows.{Row}
use Rattle.tqd_instance.specs.PartsData.{PartsData}
use Rattle.tqd_instance.specs.Job.{goods, suppliers}
use Rattle.tqd_instance.specs.Built.{IsJobOf, Refuses}
use Rattle.tqd_instance.specs.declared.parts.JobFault.{JobFault}
use Rattle.tqd_instance.specs.declared.parts.JobFault.TheVariants.{TooManyGoods, MissingPrice, ShareOrder, WinnerOrder}
use Rattle.tqd_instance.specs.declared.parts.ShareRow.{ShareRow}
use Rattle.tqd_instance.proofs.LackLemmas.{offered_in_range, lack_supplier}
use Rattle.plan_report.specs.FaultText.{IsJobFaultNamed}
use Rattle.plan_report.specs.declared.fault.FileFault.TheVariants.{Offers as InOffers, Terms as InTerms}
use Rattle.tqd_top.specs.declared.reading.NeedsRead.{NeedsRead}
use Rattle.tqd_top.specs.declared.reading.OffersRead.{OffersRead}
use Rattle.tqd_top.specs.declared.reading.JobRead.{JobRead}
use Rattle.command_words.specs.Words.{FilesNamed}
use Rattle.tqd_top.specs.JobOf.{FaultLine, JobOf, NeedsOf, before_job, OffersOf, TermsGive, TermsOf, offers_stated, plainly, terms_stated, wanted}
use Rattle.tqd_top.specs.Inner.ReadBook.{IsReadBook, IsReadJob}

pub no_value : {F W : Type 0} (f : F) (w : W) → ◌≡◌ {A = Result W F} (Err f) (Ok w) → ⊥
no_value f w e = cc

pub one_value : {F W : Type 0} (x y : W) → ◌≡◌ {A = Result W F} (Ok x) (Ok y) → x ≡ y
one_value x y e = cc

-- a value that a step gave, or that two steps gave in turn
pub step_ok : {F V W : Type 0} (step : V → Result W F) (r : Result V F) (w : W) → and_then step r ≡ Ok w → (v : V) × (r ≡ Ok v) × (step v ≡ Ok w)
step_ok step (Ok v) w e = (v, refl, e)
step_ok step (Err f) w e = absurd (no_value f w e)

pub mapped_ok : {F G V W : Type 0} (f : V → W) (g : F → G) (r : Result V F) (w : W) → result_map_both f g r ≡ Ok w → (v : V) × (r ≡ Ok v) × (w ≡ f v)
mapped_ok f g (Ok v) w e = (v, refl, sym (one_value (f v) w e))
mapped_ok f g (Err x) w e = absurd (no_value (g x) w e)

-- goods are names
pub goods_named : (bill : BillData) (needs : Needed) → Explodes (structure_of bill) (Ok needs) → All (λ n. n < length bill.names) needs.goods
unfolding structure_of
goods_named bill needs e = λ i d inside. rw (get_or_default_zero needs.goods i d inside) (e.goods.each i inside).inside

-- a book of offers has the needs, and no terms
book_plain : (wants : Wanted) (needs : List ℕ) (bytes : Bytes) (book : BookData) → book_in wants needs bytes ≡ Ok book → (offers : OffersData) × (book ≡ book_of needs offers)
book_plain wants needs bytes book e =
    let s = step_ok (λ (rows : List Row). result_map_both (book_of needs) (λ (fault : OfferFault). fault) (checked_offers wants rows)) (offer_rows bytes) book e in
    let m = mapped_ok (book_of needs) (λ (fault : OfferFault). fault) (checked_offers wants s.0) book s.2 in
    (m.0, m.2)

-- terms keep the needs
fold_keeps : {S T A : Type 0} (step : S → T → S) (view : S → A) → ((s : S) (t : T) → view (step s t) ≡ view s) → (ts : List T) (s : S) → view (fold step s ts) ≡ view s
fold_keeps step view keeps [] s = refl
fold_keeps step view keeps (t ∷ ts) s = fold_keeps step view keeps ts (step s t) ∙ keeps s t

pub book_keeps : (wants : Wanted) (book : BookData) (bytes : Bytes) (after : BookData) → terms_in wants book bytes ≡ Ok after → after.parts.needs ≡ book.parts.needs
book_keeps wants book bytes after e =
    let s = step_ok (λ (rows : List Row). result_map_both (book_with book) (λ (fault : TermFault). fault) (checked_terms wants book rows)) (term_rows bytes) after e in
    let m = mapped_ok (book_with book) (λ (fault : TermFault). fault) (checked_terms wants book s.0) after s.2 in
    ap (λ (b : BookData). b.parts.needs) m.2 ∙ fold_keeps with_term (λ (parts : PartsData). parts.needs) (λ parts t. grind arith) m.0 book.parts

-- what a file states that is not too long
pub sized_ok : {V : Type 0} (long : Bool) (told : FaultLine) (stated : Result V FaultLine) (value : V) → (if long then Err told else stated) ≡ Ok value → stated ≡ Ok value
sized_ok true told stated value e = cc
sized_ok false told stated value e = e

pub named_needs : (a : Bool) (w : World) (orders : Name) (bill : Option Name) (read : NeedsRead) → NeedsOf a w orders bill (Ok read) → All (λ n. n < length read.bill.names) read.needs.goods
named_needs a w orders bill read n = subst (λ (b : BillData). All (λ n. n < length b.names) read.needs.goods) (sym n.2.0) (goods_named n.0 read.needs n.2.1)

counted_needs : (a : Bool) (w : World) (orders : Name) (bill : Option Name) (read : NeedsRead) → NeedsOf a w orders bill (Ok read) → length read.needs.units ≡ length read.needs.goods
counted_needs a w orders bill read n = n.2.1.goods.as_many

pub record IsReadPlain (read : OffersRead) : Type 0 where
  pub book : IsReadBook read
  pub no_terms : HasNoTerms read.book.parts

offers_stated_facts : (before : NeedsRead) (bytes : Bytes) (read : OffersRead) → All (λ n. n < length before.bill.names) before.needs.goods → length before.needs.units ≡ length before.needs.goods
    → offers_stated before bytes ≡ Ok read → IsReadPlain read
offers_stated_facts before bytes read named counted e =
    let with_book : BookData → OffersRead = λ book. record { bill = before.bill; needs = before.needs; book = book } in
    let m = mapped_ok with_book (λ (fault : OfferFault). plainly (InOffers fault)) (book_in (wanted before) before.needs.units bytes) read e in
    let plain = book_plain (wanted before) before.needs.units bytes m.0 m.1 in
    subst (λ (r : OffersRead). IsReadPlain r) (sym (m.2 ∙ ap with_book plain.1))
    (record { book = record { named = named; needs = refl; counted = counted }; no_terms = refl })

pub offers_facts : (a : Bool) (w : World) (files : FilesNamed) (read : OffersRead) → OffersOf a w files (Ok read) → IsReadPlain read
offers_facts a w files read o =
    offers_stated_facts o.0 o.2.bytes read (named_needs a w files.orders files.bill o.0 o.1) (counted_needs a w files.orders files.bill o.0 o.1) (sized_ok (nat_lt FILE_MAX (length o.2.bytes)) _ (offers_stated o.0 o.2.bytes) read o.2.outcome_is)

terms_stated_facts : (before : OffersRead) (bytes : Bytes) (read : OffersRead) → IsReadBook before → terms_stated before bytes ≡ Ok read → IsReadBook read
terms_stated_facts before bytes read facts e =
    let with_book : BookData → OffersRead = λ book. record { bill = before.bill; needs = before.needs; book = book } in
    let wants : Wanted = record { names = before.bill.names; goods = before.needs.goods } in
    let m = mapped_ok with_book (λ (fault : TermFault). plainly (InTerms fault)) (terms_in wants before.book bytes) read e in
    subst (λ (r : OffersRead). IsReadBook r) (sym m.2) (record { named = facts.named; needs = book_keeps wants before.book bytes m.0 m.1 ∙ facts.needs; counted = facts.counted })

terms_give_facts : (a : Bool) (w : World) (terms : Option Name) (before read : OffersRead) → IsReadBook before → TermsGive a w terms before (Ok read) → IsReadBook read
terms_give_facts a w None before read facts e = subst (λ (r : OffersRead). IsReadBook r) (sym (one_value read before e)) facts
terms_give_facts a w (Some name) before read facts g =
    terms_stated_facts before g.bytes read facts (sized_ok (nat_lt FILE_MAX (length g.bytes)) _ (terms_stated before g.bytes) read g.outcome_is)

pub terms_facts : (a : Bool) (w : World) (files : FilesNamed) (read : OffersRead) → TermsOf a w files (Ok read) → IsReadBook read
terms_facts a w files read t = terms_give_facts a w files.terms t.0 read (offers_facts a w files t.0 t.1).book t.2

-- what a fault of the job names is there
good_named : (names : List Bytes) (goods : List ℕ) (k : ℕ) → All (λ n. n < length names) goods → k < length goods → slice_index goods k < length names
good_named names goods k named inside = All-get_or (λ n. n < length names) goods k 0 inside named

pub job_fault_named : (read : OffersRead) → IsReadBook read → IsBook read.book → (fault : JobFault) → Refuses read.book.parts fault
    → IsJobFaultNamed read.bill.names read.needs.goods read.book.suppliers fault
job_fault_named read facts book (TooManyGoods n) r = tt
job_fault_named read facts book (MissingPrice i from k) r =
    let good : k < length read.needs.goods = omega (arith, offered_in_range read.book.parts i k book.formed r.1.lacks.offered, ap length facts.needs, facts.counted) in
    ((good, good_named read.bill.names read.needs.goods k facts.named good), omega (arith, lack_supplier read.book.parts i from k book.formed r.1.lacks, book.suppliers))
job_fault_named read facts book (ShareOrder i) r =
    let bad = r.2.bad in
    let row = book.formed.shares bad.0 bad.1 bad.2 in
    omega (arith, row.supplier, ap (λ (x : ShareRow). x.supplier) bad.3, bad.4.0, book.suppliers)
job_fault_named read facts book WinnerOrder r = tt

-- what holds of a job that files state
job_before : (before : OffersRead) (read : JobRead) → IsReadBook before → before_job read ≡ before → IsJobOf before.book.parts read.job → IsReadJob read
unfolding goods suppliers
job_before before read facts same is_job =
    let book = subst (λ (x : OffersRead). IsReadBook x) (sym same) facts in
    let job = subst (λ (x : OffersRead). IsJobOf x.book.parts read.job) (sym same) is_job in
    record {
      named = book.named;
      goods = sym (ap length job.needs ∙ ap length book.needs ∙ book.counted);
      suppliers = sym job.count;
    }

pub job_facts : (a : Bool) (w : World) (files : FilesNamed) (read : JobRead) → JobOf a w files (Ok read) → IsReadJob read
job_facts a w files read j = job_before j.0 read (terms_facts a w files j.0 j.1) j.2.0 j.2.2
