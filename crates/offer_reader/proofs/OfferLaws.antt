-- When offers come.
use Rattle.std.proofs.Common.{ℕ, ◌≡◌, ◌+◌, ◌<◌, ◌≤◌, Bool, true, false, not, eqb, ltb, ◌&&◌, List, [], ◌∷◌, ◌++◌, length, map, get_or, take, drop, None, Ok, is_some, refl, sym, ap, ◌∙◌, arith}
use Rattle.std.proofs.lemmas.Bool.{and_from, and_parts, eq-eqb, eqb-true, false≢true, le-ltb, not-false}
use Rattle.std.proofs.lemmas.List.{get_or-take, get_or_append_left, get_or_default, length-append, length-take-le, map-append, take-append-drop, take_more}
use Rattle.std.proofs.lemmas.List.Elements.{filter-append}
use Rattle.std.proofs.lemmas.List.Folds.{list_any_at, list_any_none}
use Rattle.std.proofs.lemmas.List.Sums.{fold-append}
use Rattle.std.proofs.lemmas.Option.{cond_some}
use Rattle.std.specs.Cmp.Lexicographic.{bytes_decides}
use Rattle.std.specs.List.{AllZip, list_any, position_or_len}
use Rattle.std.specs.Prelude.{All, is_none}
use Rattle.std.specs.Str.{bytes_eq}
use Rattle.tqd_base.specs.declared.limits.TheConstants.{SUPPLIERS_MAX, INTERVALS_MAX}
use Rattle.bom_reader.specs.Faults.{first_fault}
use Rattle.bom_reader.specs.Names.{is_name, with_name, with_names}
use Rattle.bom_reader.specs.Rows.{Row, row_number}
use Rattle.bom_reader.proofs.BillFacts.{length-with_names}
use Rattle.bom_reader.proofs.FirstFault.{each-sound, fault_if-none, sound-each, unless-ok, unless-value}
use Rattle.bom_reader.proofs.NameLaws.{name-from, name-to}
use Rattle.bom_reader.proofs.OrderLaws.{is-there, some-value}
use Rattle.tqd_instance.specs.declared.parts.PriceRow.{PriceRow}
use Rattle.offer_reader.specs.Laws.{AreIntervals, IsOfferRow, OffersAreWhole, SameOffer, StatesOffers, StatesPrice, goods_in}
use Rattle.offer_reader.specs.Offers.{Wanted, OffersData, amount_of, checked_offers, from_of, from_units, good_of, intervals_at, offer_fault_after, offers_of, part, same_offer, supplier}
use Rattle.offer_reader.specs.declared.fault.OfferFault.TheVariants.{Name, From, Price, Twice}
use Rattle.offer_reader.proofs.OfferShape.{AreFew, good-rows, intervals-are, intervals_of, no-more-intervals, offers-are, price_by, prices-to, sound-few, suppliers_with}

-- a row without a fault
record IsSound (earlier : List Row) (row : Row) : Type 0 where
  pub of_row : IsOfferRow row
  pub new : list_any (same_offer row) earlier ≡ false

sound-at : (wanted : Wanted) (earlier : List Row) (row : Row) → offer_fault_after wanted earlier row ≡ None → IsSound earlier row
sound-at wanted earlier row none =
    let at = row_number earlier in
    let a = fault_if-none (not (is_name (supplier row) && is_name (part row))) (Name at) _ none in
    let b = fault_if-none (is_none (from_of row)) (From at) _ a.1 in
    let c = fault_if-none (is_none (amount_of row)) (Price at) _ b.1 in
    let d = fault_if-none (list_any (same_offer row) earlier) (Twice at) _ c.1 in
    let names = and_parts (is_name (supplier row)) (is_name (part row)) (not-false (is_name (supplier row) && is_name (part row)) a.0) in
    record {
      of_row = record { supplier_name = name-to (supplier row) names.0; part_name = name-to (part row) names.1; from_there = is-there (from_of row) b.0; price_there = is-there (amount_of row) c.0 };
      new = d.0;
    }

-- rows of one supplier, total and part
pub same-from : (a b : Row) → SameOffer a b → same_offer a b ≡ true
same-from a b same = and_from (bytes_eq (supplier a) (supplier b) && eqb (from_units a) (from_units b)) (bytes_eq (part a) (part b))
    (and_from (bytes_eq (supplier a) (supplier b)) (eqb (from_units a) (from_units b)) ((bytes_decides (supplier a) (supplier b)).1 same.supplier_is) (eq-eqb (from_units a) (from_units b) same.from_is))
    ((bytes_decides (part a) (part b)).1 same.part_is)

pub same-to : (a b : Row) → same_offer a b ≡ true → SameOffer a b
same-to a b e =
    let p = and_parts (bytes_eq (supplier a) (supplier b) && eqb (from_units a) (from_units b)) (bytes_eq (part a) (part b)) e in
    let q = and_parts (bytes_eq (supplier a) (supplier b)) (eqb (from_units a) (from_units b)) p.0 in
    record { supplier_is = (bytes_decides (supplier a) (supplier b)).0 q.0; from_is = eqb-true (from_units a) (from_units b) q.1; part_is = (bytes_decides (part a) (part b)).0 p.1 }

flipped : (a b : Row) → SameOffer a b → SameOffer b a
flipped a b same = record { supplier_is = sym same.supplier_is; from_is = sym same.from_is; part_is = sym same.part_is }

-- offers come
pub offers-made : (wanted : Wanted) (rows : List Row) → first_fault (offer_fault_after wanted) [] rows ≡ None → StatesOffers wanted rows (offers_of wanted rows)
offers-made wanted rows none =
    let sound : All IsOfferRow rows = λ i d inside. (sound-at wanted (take i rows) (get_or rows i d) (each-sound (offer_fault_after wanted) [] rows none i d inside)).of_row in
    let few = sound-few wanted rows none in
    let suppliers = suppliers_with wanted [] rows in
    let are = offers-are wanted rows in
    record {
      each_row = sound;
      distinct = λ i j d ordered inside same.
          let last = get_or rows j d in
          let among : i < length (take j rows) = rw (length-take-le j rows (omega arith)) ordered in
          let twice : list_any (same_offer last) (take j rows) ≡ true = list_any_at (same_offer last) (take j rows) i d among (rw (get_or-take j rows i d ordered) (same-from last (get_or rows i d) (flipped (get_or rows i d) last same))) in
          false≢true (sym (sound-at wanted (take j rows) last (each-sound (offer_fault_after wanted) [] rows none j d inside)).new ∙ twice);
      sellers_are = ap (λ (offers : OffersData). offers.sellers) are;
      offered_are = ap (λ (offers : OffersData). offers.offered) are;
      suppliers_are = ap (λ (offers : OffersData). offers.suppliers) are;
      prices_are = rw are (prices-to wanted suppliers (goods_in wanted rows) (good-rows wanted rows sound));
      few_suppliers = few.suppliers;
      few_intervals = λ name froms intervals. omega (arith, no-more-intervals wanted rows name froms intervals, few.intervals name);
    }

offers-to : (wanted : Wanted) (rows : List Row) (offers : OffersData) → checked_offers wanted rows ≡ Ok offers → StatesOffers wanted rows offers
offers-to wanted rows offers e =
    let none = unless-ok (first_fault (offer_fault_after wanted) [] rows) (offers_of wanted rows) offers e in
    let is = unless-value (first_fault (offer_fault_after wanted) [] rows) (offers_of wanted rows) offers e in
    rw (← is) (offers-made wanted rows none)

-- the prices that rows state are no others
prices-from : (wanted : Wanted) (suppliers : List (List ℕ)) (rows : List Row) (prices : List PriceRow) → AllZip (StatesPrice wanted suppliers) rows prices → map (price_by wanted suppliers) rows ≡ prices
prices-from wanted suppliers [] [] all = refl
prices-from wanted suppliers [] (price ∷ prices) all = absurd all
prices-from wanted suppliers (row ∷ rows) [] all = absurd all
prices-from wanted suppliers (row ∷ rows) (price ∷ prices) all =
    let is = all.0 in
    let place : position_or_len (bytes_eq (supplier row)) suppliers ≡ price.supplier = (cond_some (ltb (position_or_len (bytes_eq (supplier row)) suppliers) (length suppliers)) (position_or_len (bytes_eq (supplier row)) suppliers) price.supplier is.supplier_is).1 in
    rw (place, is.from_is, is.good_is, is.price_is, prices-from wanted suppliers rows prices all.1) refl

-- rows before others have no more suppliers, and no more intervals
suppliers-before : (wanted : Wanted) (front back : List Row) → length (offers_of wanted front).suppliers ≤ length (offers_of wanted (front ++ back)).suppliers
suppliers-before wanted front back =
    let test : Row → Bool = λ row. is_some (good_of wanted (part row)) in
    let names = map supplier (goods_in wanted front) in
    let more = map supplier (goods_in wanted back) in
    let split : map supplier (goods_in wanted (front ++ back)) ≡ names ++ more = ap (map supplier) (filter-append test front back) ∙ map-append supplier (goods_in wanted front) (goods_in wanted back) in
    let all : with_names [] (map supplier (goods_in wanted (front ++ back))) ≡ with_names (with_names [] names) more = ap (with_names []) split ∙ fold-append with_name [] names more in
    rw (offers-are wanted front, offers-are wanted (front ++ back), all) (length-with_names (with_names [] names) more)

intervals-before : (wanted : Wanted) (front back : List Row) (name froms : List ℕ) → AreIntervals wanted front name froms → AreIntervals wanted (front ++ back) name froms
intervals-before wanted front back name froms are = record {
  distinct = are.distinct;
  each = λ i d inside. let any = are.each i d inside in (any.0, any.1, omega (arith, any.2, length-append front back), get_or_append_left front back any.1 any.0 any.2 ∙ any.3, any.4);
}

-- and where rows state offers, those before others are few
pub few-before : (wanted : Wanted) (front back : List Row) (offers : OffersData) → StatesOffers wanted (front ++ back) offers → All IsOfferRow front → AreFew wanted front
few-before wanted front back offers h sound =
    let same : offers.suppliers ≡ (offers_of wanted (front ++ back)).suppliers = h.suppliers_are ∙ sym (ap (λ (o : OffersData). o.suppliers) (offers-are wanted (front ++ back))) in
    let all : length (offers_of wanted (front ++ back)).suppliers ≤ SUPPLIERS_MAX = rw same at h.few_suppliers in
    record {
      suppliers = omega (arith, all, suppliers-before wanted front back);
      intervals = λ name. h.few_intervals name (intervals_of wanted front name) (intervals-before wanted front back name (intervals_of wanted front name) (intervals-are wanted front name sound));
    }

sound-row : (wanted : Wanted) (rows : List Row) (offers : OffersData) → StatesOffers wanted rows offers → (i : ℕ) (d : Row) → i < length rows → offer_fault_after wanted (take i rows) (get_or rows i d) ≡ None
sound-row wanted rows offers h i d inside =
    let row = get_or rows i d in
    let is = h.each_row i d inside in
    let named = and_from (is_name (supplier row)) (is_name (part row)) (name-from (supplier row) is.supplier_name) (name-from (part row) is.part_name) in
    let other : All (λ (r : Row). same_offer row r ≡ false) (take i rows) = λ k e among.
    let before : k < i = omega (arith, length-take-le i rows (omega arith)) in
    let same : get_or (take i rows) k e ≡ get_or rows k d = get_or-take i rows k e before ∙ get_or_default rows k e d (omega arith) in
    not-same row (get_or (take i rows) k e) (rw same (h.distinct k i d before inside)) in
    let once = list_any_none (same_offer row) (take i rows) other in
    let front = take i rows ++ row ∷ [] in
    let split : front ++ drop (i + 1) rows ≡ rows = ap (λ (some : List Row). some ++ drop (i + 1) rows) (sym (take_more rows i d inside)) ∙ take-append-drop (i + 1) rows in
    let sound : All IsOfferRow front = λ k e within.
    let short : length front ≡ i + 1 = length-append (take i rows) (row ∷ []) ∙ ap (λ n. n + 1) (length-take-le i rows (omega arith)) in
    let at : get_or front k e ≡ get_or rows k e = sym (get_or_append_left front (drop (i + 1) rows) e k within) ∙ ap (λ (some : List Row). get_or some k e) split in
    rw at (h.each_row k e (omega (arith, within, short))) in
    let few = few-before wanted front (drop (i + 1) rows) offers (rw split h) sound in
    rw (named, some-value (from_of row) is.from_there, some-value (amount_of row) is.price_there, once, le-ltb SUPPLIERS_MAX (length (offers_of wanted front).suppliers) few.suppliers, le-ltb INTERVALS_MAX (intervals_at (offers_of wanted front) row) (few.intervals (supplier row))) refl where
      not-same : (a b : Row) → ¬ (SameOffer b a) → same_offer a b ≡ false
      not-same a b differ = go (same_offer a b) refl where
        go : (t : Bool) → same_offer a b ≡ t → same_offer a b ≡ false
        go true same = absurd (differ (flipped a b (same-to a b same)))
        go false same = same

pub offers-sound : (wanted : Wanted) (rows : List Row) (offers : OffersData) → StatesOffers wanted rows offers → first_fault (offer_fault_after wanted) [] rows ≡ None
offers-sound wanted rows offers h = sound-each (offer_fault_after wanted) [] rows (sound-row wanted rows offers h)

-- the offers that rows state are no others
pub offers-same : (wanted : Wanted) (rows : List Row) (offers : OffersData) → StatesOffers wanted rows offers → offers_of wanted rows ≡ offers
offers-same wanted rows offers h =
    let prices : map (price_by wanted (suppliers_with wanted [] rows)) (goods_in wanted rows) ≡ offers.prices = prices-from wanted (suppliers_with wanted [] rows) (goods_in wanted rows) offers.prices (rw h.suppliers_are at h.prices_are) in
    offers-are wanted rows ∙ rw (prices, ← h.sellers_are, ← h.offered_are, ← h.suppliers_are) refl

offers-from : (wanted : Wanted) (rows : List Row) (offers : OffersData) → StatesOffers wanted rows offers → checked_offers wanted rows ≡ Ok offers
offers-from wanted rows offers h = rw (offers-sound wanted rows offers h, offers-same wanted rows offers h) refl

pub offers_are_whole : OffersAreWhole
offers_are_whole wanted rows offers = (offers-to wanted rows offers, offers-from wanted rows offers)
