-- When each fault of offers comes.
use Rattle.std.proofs.Common.{◌≡◌, ℕ, ◌+◌, ◌<◌, ◌≤◌, Bool, true, false, not, ◌&&◌, ltb, List, [], ◌∷◌, ◌++◌, length, Option, None, Some, Ok, Err, refl, sym, ap, ◌∙◌, inl, inr, Result, arith}
use Rattle.std.proofs.lemmas.Bool.{and_from, and_parts, false≢true, lt-ltb, ltb-true, not-false, not-true}
use Rattle.std.proofs.lemmas.List.{length-append}
use Rattle.std.proofs.lemmas.List.Elements.{All-append, All-cons, All-nil}
use Rattle.std.proofs.lemmas.List.Folds.{Any-from_list_any, list_any_at}
use Rattle.std.proofs.lemmas.List.Sums.{fold-append}
use Rattle.std.proofs.lemmas.Option.{none-some}
use Rattle.std.specs.List.{list_any}
use Rattle.std.specs.Prelude.{Any, ◌↔◌, is_none}
use Rattle.std.specs.Result.{result_map_both}
use Rattle.tqd_base.specs.declared.limits.TheConstants.{SUPPLIERS_MAX, INTERVALS_MAX}
use Rattle.csv_rows.specs.Rows.{records_of, table_of}
use Rattle.csv_rows.specs.declared.fault.RowFault.{RowFault}
use Rattle.bom_reader.specs.Faults.{and_then, fault_if, first_fault}
use Rattle.bom_reader.specs.Laws.{IsName, StandsAfter}
use Rattle.bom_reader.specs.Names.{has_name, is_name, with_name}
use Rattle.bom_reader.specs.Rows.{Row, row_number}
use Rattle.bom_reader.proofs.FirstFault.{fault_if-some, first-from, first-to, unless-err}
use Rattle.bom_reader.proofs.NameFacts.{with_name-other}
use Rattle.bom_reader.proofs.NameLaws.{has-not-from, has-not-to, name-from, name-to, with_name-same}
use Rattle.bom_reader.proofs.OrderLaws.{is-there, no-value, some-value}
use Rattle.offer_reader.specs.Book.{book_of}
use Rattle.offer_reader.specs.Laws.{BringsInterval, BringsSupplier, IsOfferFault, IsOfferRow, OfferFaultsAreFirst, OfferFormComesFirst, SameOffer, StatesOffers}
use Rattle.offer_reader.specs.Offers.{Wanted, OffersData, amount_of, checked_offers, from_of, good_of, intervals_at, no_offers, offer_columns, offer_fault_after, offers_of, part, same_offer, supplier, with_offer, with_price}
use Rattle.offer_reader.specs.declared.fault.OfferFault.{OfferFault}
use Rattle.offer_reader.specs.declared.fault.OfferFault.TheVariants.{Rows, Name, From, Price, Twice, TooManySuppliers, TooManyIntervals}
use Rattle.offer_reader.proofs.OfferLaws.{offers-made, offers-same, offers-sound, same-from, same-to}
use Rattle.offer_reader.proofs.OfferShape.{intervals-are, intervals_of, no-more-intervals}

not-both : (row : Row) → (is_name (supplier row) && is_name (part row)) ≡ false → ¬ (IsName (supplier row) × IsName (part row))
not-both row e n = false≢true (sym e ∙ and_from (is_name (supplier row)) (is_name (part row)) (name-from (supplier row) n.0) (name-from (part row) n.1))

not-sound : (row : Row) → ¬ (IsName (supplier row) × IsName (part row)) → (is_name (supplier row) && is_name (part row)) ≡ false
not-sound row other = go (is_name (supplier row) && is_name (part row)) refl where
  go : (b : Bool) → (is_name (supplier row) && is_name (part row)) ≡ b → (is_name (supplier row) && is_name (part row)) ≡ false
  go true is = let p = and_parts (is_name (supplier row)) (is_name (part row)) is in absurd (other (name-to (supplier row) p.0, name-to (part row) p.1))
  go false is = is

-- a repeat
twice-to : (row : Row) (before : List Row) → list_any (same_offer row) before ≡ true → Any (SameOffer row) before
twice-to row before e = let any = Any-from_list_any (same_offer row) before e in (any.0, any.1, any.2, any.3, same-to row any.1 any.4)

twice-from : (row : Row) (before : List Row) → Any (SameOffer row) before → list_any (same_offer row) before ≡ true
twice-from row before any = list_any_at (same_offer row) before any.0 any.1 any.2 (rw any.3 (same-from row any.1 any.4))

once-to : (row : Row) (before : List Row) → list_any (same_offer row) before ≡ false → ¬ (Any (SameOffer row) before)
once-to row before e any = false≢true (sym e ∙ twice-from row before any)

once-from : (row : Row) (before : List Row) → ¬ (Any (SameOffer row) before) → list_any (same_offer row) before ≡ false
once-from row before none = go (list_any (same_offer row) before) refl where
  go : (b : Bool) → list_any (same_offer row) before ≡ b → list_any (same_offer row) before ≡ false
  go true is = absurd (none (twice-to row before is))
  go false is = is

-- one supplier more
suppliers-more : OffersData → Row → Option ℕ → ℕ
suppliers-more offers row o = length (with_price o row (record offers { sellers = with_name offers.sellers (supplier row); offered = with_name offers.offered (part row) })).suppliers

brings-to : (wanted : Wanted) (offers : OffersData) (row : Row) → length offers.suppliers ≤ SUPPLIERS_MAX → SUPPLIERS_MAX < length (with_offer wanted offers row).suppliers → BringsSupplier wanted offers row
unfolding suppliers-more
brings-to wanted offers row few many = go (good_of wanted (part row)) refl many where
  go : (o : Option ℕ) → good_of wanted (part row) ≡ o → SUPPLIERS_MAX < suppliers-more offers row o → BringsSupplier wanted offers row
  go None is more = absurd (omega (arith, few, more))
  go (Some good) is more = new (has_name offers.suppliers (supplier row)) refl where
    new : (b : Bool) → has_name offers.suppliers (supplier row) ≡ b → BringsSupplier wanted offers row
    new true known = let above : SUPPLIERS_MAX < length offers.suppliers = rw (with_name-same offers.suppliers (supplier row) known) at more in absurd (omega (arith, few, above))
    new false known = let above : SUPPLIERS_MAX < length offers.suppliers + 1 = rw (with_name-other offers.suppliers (supplier row) known, length-append offers.suppliers (supplier row ∷ [])) at more in
        record { of_good = rw is refl; new = has-not-to offers.suppliers (supplier row) known; full = omega (arith, few, above) }

brings-from : (wanted : Wanted) (offers : OffersData) (row : Row) → BringsSupplier wanted offers row → SUPPLIERS_MAX < length (with_offer wanted offers row).suppliers
unfolding suppliers-more
brings-from wanted offers row brings = go (good_of wanted (part row)) refl where
  go : (o : Option ℕ) → good_of wanted (part row) ≡ o → SUPPLIERS_MAX < length (with_offer wanted offers row).suppliers
  go None is = absurd (false≢true (rw is at brings.of_good))
  go (Some good) is = rw (is, with_name-other offers.suppliers (supplier row) (has-not-from offers.suppliers (supplier row) brings.new), length-append offers.suppliers (supplier row ∷ []), brings.full) (omega arith)

-- the offers with one row more
with-row : (wanted : Wanted) (before : List Row) (row : Row) → offers_of wanted (before ++ row ∷ []) ≡ with_offer wanted (offers_of wanted before) row
with-row wanted before row = fold-append (with_offer wanted) no_offers before (row ∷ [])

abbrev many-suppliers : Wanted → List Row → Row → Bool
many-suppliers wanted before row = ltb SUPPLIERS_MAX (length (offers_of wanted (before ++ row ∷ [])).suppliers)

abbrev many-intervals : Wanted → List Row → Row → Bool
many-intervals wanted before row = ltb INTERVALS_MAX (intervals_at (offers_of wanted (before ++ row ∷ [])) row)

many-to : (wanted : Wanted) (before : List Row) (row : Row) (offers : OffersData) → StatesOffers wanted before offers → many-suppliers wanted before row ≡ true → BringsSupplier wanted offers row
many-to wanted before row offers h many =
    let above : SUPPLIERS_MAX < length (offers_of wanted (before ++ row ∷ [])).suppliers = ltb-true SUPPLIERS_MAX (length (offers_of wanted (before ++ row ∷ [])).suppliers) many in
    brings-to wanted offers row h.few_suppliers (rw (with-row wanted before row, offers-same wanted before offers h) at above)

many-from : (wanted : Wanted) (before : List Row) (row : Row) (offers : OffersData) → StatesOffers wanted before offers → BringsSupplier wanted offers row → many-suppliers wanted before row ≡ true
many-from wanted before row offers h brings =
    lt-ltb SUPPLIERS_MAX (length (offers_of wanted (before ++ row ∷ [])).suppliers) (rw (with-row wanted before row, offers-same wanted before offers h) (brings-from wanted offers row brings))

not-many-to : (wanted : Wanted) (before : List Row) (row : Row) (offers : OffersData) → StatesOffers wanted before offers → many-suppliers wanted before row ≡ false → ¬ (BringsSupplier wanted offers row)
not-many-to wanted before row offers h few brings = false≢true (sym few ∙ many-from wanted before row offers h brings)

not-many-from : (wanted : Wanted) (before : List Row) (row : Row) (offers : OffersData) → StatesOffers wanted before offers → ¬ (BringsSupplier wanted offers row) → many-suppliers wanted before row ≡ false
not-many-from wanted before row offers h other = go (many-suppliers wanted before row) refl where
  go : (b : Bool) → many-suppliers wanted before row ≡ b → many-suppliers wanted before row ≡ false
  go true is = absurd (other (many-to wanted before row offers h is))
  go false is = is

-- one interval more
intervals-to : (wanted : Wanted) (before : List Row) (row : Row) (offers : OffersData) → StatesOffers wanted before offers → IsOfferRow row → many-intervals wanted before row ≡ true → BringsInterval wanted before row
intervals-to wanted before row offers h sound many =
    let all = before ++ row ∷ [] in (
      intervals_of wanted all (supplier row),
      intervals-are wanted all (supplier row) (All-append IsOfferRow before (row ∷ []) h.each_row (All-cons IsOfferRow row [] sound (All-nil IsOfferRow))),
      ltb-true INTERVALS_MAX (length (intervals_of wanted all (supplier row))) many,
    )

intervals-from : (wanted : Wanted) (before : List Row) (row : Row) → BringsInterval wanted before row → many-intervals wanted before row ≡ true
intervals-from wanted before row brings =
    let all = before ++ row ∷ [] in
    lt-ltb INTERVALS_MAX (length (intervals_of wanted all (supplier row))) (omega (arith, brings.2, no-more-intervals wanted all (supplier row) brings.0 brings.1))

-- the fault of a row
counted-to : (wanted : Wanted) (rows before : List Row) (offers : OffersData) (row : Row) (fault : OfferFault) → StatesOffers wanted before offers → StandsAfter rows before row (row_number before) → IsOfferRow row
    → fault_if (list_any (same_offer row) before) (Twice (row_number before)) (fault_if (many-suppliers wanted before row) (TooManySuppliers (row_number before)) (fault_if (many-intervals wanted before row) (TooManyIntervals (row_number before)) None)) ≡ Some fault
    → IsOfferFault wanted rows before offers row fault
counted-to wanted rows before offers row fault h stands sound e =
    let at = row_number before in
    elim (fault_if-some (list_any (same_offer row) before) (Twice at) fault _ e) [
      | inl twice ↦ rw twice.1 (stands, sound, twice-to row before twice.0)
      | inr new ↦ let once = once-to row before new.0 in elim (fault_if-some (many-suppliers wanted before row) (TooManySuppliers at) fault _ new.1) [
        | inl many ↦ rw many.1 (stands, sound, once, many-to wanted before row offers h many.0)
        | inr few ↦ elim (fault_if-some (many-intervals wanted before row) (TooManyIntervals at) fault None few.1) [
          | inl more ↦ rw more.1 (stands, sound, once, not-many-to wanted before row offers h few.0, intervals-to wanted before row offers h sound more.0)
          | inr nothing ↦ absurd (none-some fault nothing.1)
        ]
      ]
    ]

fault-to : (wanted : Wanted) (rows before : List Row) (offers : OffersData) (row : Row) (fault : OfferFault) → StatesOffers wanted before offers → StandsAfter rows before row (row_number before)
    → offer_fault_after wanted before row ≡ Some fault → IsOfferFault wanted rows before offers row fault
fault-to wanted rows before offers row fault h stands e =
    let at = row_number before in
    elim (fault_if-some (not (is_name (supplier row) && is_name (part row))) (Name at) fault _ e) [
      | inl name ↦ rw name.1 (stands, not-both row (not-true (is_name (supplier row) && is_name (part row)) name.0))
      | inr named ↦ let p = and_parts (is_name (supplier row)) (is_name (part row)) (not-false (is_name (supplier row) && is_name (part row)) named.0) in
          let first = name-to (supplier row) p.0 in
          let second = name-to (part row) p.1 in
          elim (fault_if-some (is_none (from_of row)) (From at) fault _ named.1) [
            | inl from ↦ rw from.1 (stands, first, second, no-value (from_of row) from.0)
            | inr total ↦ let begins = is-there (from_of row) total.0 in elim (fault_if-some (is_none (amount_of row)) (Price at) fault _ total.1) [
              | inl price ↦ rw price.1 (stands, first, second, begins, no-value (amount_of row) price.0)
              | inr priced ↦ counted-to wanted rows before offers row fault h stands (record { supplier_name = first; part_name = second; from_there = begins; price_there = is-there (amount_of row) priced.0 }) priced.1
            ]
          ]
    ]

names-sound : (row : Row) → IsName (supplier row) → IsName (part row) → (is_name (supplier row) && is_name (part row)) ≡ true
names-sound row first second = and_from (is_name (supplier row)) (is_name (part row)) (name-from (supplier row) first) (name-from (part row) second)

fault-from : (wanted : Wanted) (rows before : List Row) (offers : OffersData) (row : Row) (fault : OfferFault) → StatesOffers wanted before offers → IsOfferFault wanted rows before offers row fault
    → StandsAfter rows before row (row_number before) × (offer_fault_after wanted before row ≡ Some fault)
fault-from wanted rows before offers row (Rows fault) h is = absurd is
fault-from wanted rows before offers row (Name at) h is = (rw is.0.number at is.0, rw (not-sound row is.1, is.0.number) refl)
fault-from wanted rows before offers row (From at) h is = (rw is.0.number at is.0, rw (names-sound row is.1 is.2, is.3, is.0.number) refl)
fault-from wanted rows before offers row (Price at) h is = (rw is.0.number at is.0, rw (names-sound row is.1 is.2, some-value (from_of row) is.3, is.4, is.0.number) refl)
fault-from wanted rows before offers row (Twice at) h is =
    let named = names-sound row is.1.supplier_name is.1.part_name in
    (rw is.0.number at is.0, rw (named, some-value (from_of row) is.1.from_there, some-value (amount_of row) is.1.price_there, twice-from row before is.2, is.0.number) refl)
fault-from wanted rows before offers row (TooManySuppliers at) h is =
    let named = names-sound row is.1.supplier_name is.1.part_name in
    (rw is.0.number at is.0, rw (named, some-value (from_of row) is.1.from_there, some-value (amount_of row) is.1.price_there, once-from row before is.2, many-from wanted before row offers h is.3, is.0.number) refl)
fault-from wanted rows before offers row (TooManyIntervals at) h is =
    let named = names-sound row is.1.supplier_name is.1.part_name in (
      rw is.0.number at is.0,
      rw (named, some-value (from_of row) is.1.from_there, some-value (amount_of row) is.1.price_there, once-from row before is.2, not-many-from wanted before row offers h is.3, intervals-from wanted before row is.4, is.0.number) refl,
    )

faults-to : (wanted : Wanted) (rows : List Row) (fault : OfferFault) → checked_offers wanted rows ≡ Err fault → (before : List Row) × (row : Row) × (offers : OffersData) × StatesOffers wanted before offers × IsOfferFault wanted rows before offers row fault
faults-to wanted rows fault e =
    let first = first-to (offer_fault_after wanted) [] rows fault (unless-err (first_fault (offer_fault_after wanted) [] rows) (offers_of wanted rows) fault e) in
    let offers = offers_of wanted first.before in
    let states = offers-made wanted first.before first.sound in
    let stands : StandsAfter rows first.before first.row (row_number first.before) = record { after = first.after; rows_are = first.rows_are; number = refl } in
    (first.before, first.row, offers, states, fault-to wanted rows first.before offers first.row fault states stands first.faulty)

faults-from : (wanted : Wanted) (rows : List Row) (fault : OfferFault) → ((before : List Row) × (row : Row) × (offers : OffersData) × StatesOffers wanted before offers × IsOfferFault wanted rows before offers row fault) → checked_offers wanted rows ≡ Err fault
faults-from wanted rows fault h =
    let at = fault-from wanted rows h.0 h.2 h.1 fault h.3 h.4 in
    rw (first-from (offer_fault_after wanted) rows h.0 h.1 at.0.after fault at.0.rows_are (offers-sound wanted h.0 h.2 h.3) at.1) refl

pub offer_faults_are_first : OfferFaultsAreFirst
offer_faults_are_first wanted rows fault = (faults-to wanted rows fault, faults-from wanted rows fault)

-- a fault of the file's form comes before all other faults
form : (wanted : Wanted) (needs : List ℕ) (r : Result (List Row) RowFault) (fault : RowFault)
    → (and_then (λ rows. result_map_both (book_of needs) (λ f. f) (checked_offers wanted rows)) (result_map_both (λ (rows : List Row). rows) Rows r) ≡ Err (Rows fault)) ↔ (r ≡ Err fault)
form wanted needs (Ok rows) fault = (λ e. never (checked_offers wanted rows) refl e, λ e. cc e) where
  never : (o : Result OffersData OfferFault) → checked_offers wanted rows ≡ o → result_map_both (book_of needs) (λ (f : OfferFault). f) o ≡ Err (Rows fault) → Ok rows ≡ Err fault
  never (Ok offers) is e = cc e
  never (Err found) is e = let same : found ≡ Rows fault = cc e in absurd (faults-to wanted rows (Rows fault) (is ∙ ap (λ f. Err f) same)).4
form wanted needs (Err found) fault = (λ e. cc e, λ e. let same : found ≡ fault = cc e in rw same refl)

pub offer_form_comes_first : OfferFormComesFirst
offer_form_comes_first wanted needs bytes fault = form wanted needs (table_of offer_columns (records_of bytes)) fault
