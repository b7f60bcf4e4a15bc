-- The totals from which the prices of each supplier hold.
use Rattle.std.proofs.Common.{ℕ, suc, ◌≡◌, ◌≢◌, ◌+◌, ◌<◌, ◌≤◌, Bool, true, false, eqb, List, [], ◌∷◌, ◌++◌, length, map, filter, get_or, set, refl, sym, ap, ◌∙◌, subst, ⊎_elim, append-nil, arith}
use Rattle.std.proofs.lemmas.Bool.{cases_lt, eq-eqb, ne_eqb, lt-ltb, le-ltb, eqb-true, false≢true}
use Rattle.std.proofs.lemmas.List.{length-append, length-set, get_or-set_same, get_or-set_other, get_or_append_left, get_or-append-add, map-append}
use Rattle.std.proofs.lemmas.List.Elements.{All-nil, All-cons, All-head, All-tail, All-append, All-weaker, filter-append}
use Rattle.std.proofs.lemmas.List.Sums.{fold-append}
use Rattle.std.specs.Prelude.{All, if◌then◌else◌}
use Rattle.std.specs.List.{position_or_len}
use Rattle.std.specs.Str.{bytes_eq}
use Rattle.tqd_instance.specs.declared.parts.PriceRow.{PriceRow}
use Rattle.bom_reader.specs.Names.{has_name, with_name}
use Rattle.bom_reader.proofs.Places.{place_inside, place_last}
use Rattle.bom_reader.proofs.NamePlaces.{has_name-added}
use Rattle.tqd_base.specs.declared.limits.TheConstants.{SUPPLIERS_MAX, INTERVALS_MAX}
use Rattle.bom_reader.proofs.NameFacts.{is_same}
use Rattle.offer_reader.specs.Offers.{froms_of, with_number}
use Rattle.offer_reader.specs.Reading.{PricesData, ArePrices, priced}
use Rattle.offer_reader.specs.declared.reading.OfferNumbers.{OfferNumbers}

-- one price more
froms_more : (rows : List PriceRow) (r : PriceRow) (k : ℕ) → froms_of (rows ++ r ∷ []) k ≡ (if eqb r.supplier k then with_number (froms_of rows k) r.from else froms_of rows k)
froms_more rows r k = go (eqb r.supplier k) refl where
  test : PriceRow → Bool
  test s = eqb s.supplier k

  go : (b : Bool) → eqb r.supplier k ≡ b → froms_of (rows ++ r ∷ []) k ≡ (if b then with_number (froms_of rows k) r.from else froms_of rows k)
  go true is = rw (filter-append (λ s. eqb s.supplier k) rows (r ∷ []), is, map-append (λ (s : PriceRow). s.from) (filter (λ s. eqb s.supplier k) rows) (r ∷ []))
      (fold-append with_number [] (map (λ (s : PriceRow). s.from) (filter (λ s. eqb s.supplier k) rows)) (r.from ∷ []))
  go false is = rw (filter-append (λ s. eqb s.supplier k) rows (r ∷ []), is, append-nil) refl

froms_none : (rows : List PriceRow) (n : ℕ) → All (λ r. r.supplier < n) rows → froms_of rows n ≡ []
froms_none [] n all = refl
froms_none (r ∷ rows) n all =
    let below : r.supplier < n = All-head (λ (s : PriceRow). s.supplier < n) r rows all in
    rw (ne_eqb r.supplier n (λ (e : r.supplier ≡ n). omega arith)) (froms_none rows n (All-tail (λ (s : PriceRow). s.supplier < n) r rows all))

-- each supplier has few totals
pub froms_few : (prices : PricesData) → ArePrices prices → (k : ℕ) → length (froms_of prices.rows k) ≤ INTERVALS_MAX
froms_few prices are k = ⊎_elim
    (λ (inside : k < length prices.froms). subst (λ (list : List ℕ). length list ≤ INTERVALS_MAX) (are.each k inside) (are.few k inside))
    (λ (past : length prices.froms ≤ k).
    let none : froms_of prices.rows k ≡ [] = froms_none prices.rows k (All-weaker (λ (r : PriceRow). r.supplier < length prices.suppliers) (λ (r : PriceRow). r.supplier < k) (λ r below. omega (arith, below, past, are.as_many)) prices.rows are.of_suppliers) in
    subst (λ (list : List ℕ). length list ≤ INTERVALS_MAX) (sym none) (omega arith))
    (cases_lt k (length prices.froms))

-- one more price of a good, in a list for its supplier
pub as_many_more : (prices : PricesData) (name : List ℕ) (good : ℕ) (numbers : OfferNumbers) → ArePrices prices → length (priced prices name good numbers).froms ≡ length (priced prices name good numbers).suppliers
as_many_more prices name good numbers are = go (has_name prices.suppliers name) refl where
  go : (b : Bool) → has_name prices.suppliers name ≡ b → length (priced prices name good numbers).froms ≡ length (priced prices name good numbers).suppliers
  go true is =
      let inside : position_or_len (bytes_eq name) prices.suppliers < length prices.froms = omega (arith, place_inside (bytes_eq name) prices.suppliers is, are.as_many) in
      rw (is, lt-ltb (position_or_len (bytes_eq name) prices.suppliers) (length prices.froms) inside, length-set) are.as_many
  go false is =
      let last : position_or_len (bytes_eq name) (prices.suppliers ++ name ∷ []) ≡ length prices.suppliers = place_last (bytes_eq name) prices.suppliers name is (is_same name) in
      rw (is, last, le-ltb (length prices.suppliers) (length prices.froms) (omega (arith, are.as_many)), length-append, length-append) (omega (arith, are.as_many))

-- the list at a place, where the numbers of a supplier were changed
pub each_more : (prices : PricesData) (name : List ℕ) (good : ℕ) (numbers : OfferNumbers) → ArePrices prices → (k : ℕ) → k < length (priced prices name good numbers).froms
    → get_or (priced prices name good numbers).froms k [] ≡ froms_of (priced prices name good numbers).rows k
each_more prices name good numbers are k inside = go (has_name prices.suppliers name) refl inside where
  new_row : ℕ → PriceRow
  new_row i = record { supplier = i; from = numbers.from; good = good; price = numbers.price }

  there : (i : ℕ) → i < length prices.froms → k < length prices.froms → (b : Bool) → eqb i k ≡ b
      → get_or (set prices.froms i (with_number (get_or prices.froms i []) numbers.from)) k [] ≡ froms_of (prices.rows ++ new_row i ∷ []) k
  there i here far true is =
      let same : k ≡ i = sym (eqb-true i k is) in
      rw (froms_more prices.rows (new_row i) k, is, same, get_or-set_same prices.froms i (with_number (get_or prices.froms i []) numbers.from) [] here, are.each i here) refl
  there i here far false is =
      let apart : k ≢ i = λ (e : k ≡ i). false≢true (sym is ∙ eq-eqb i k (sym e)) in
      rw (froms_more prices.rows (new_row i) k, is, get_or-set_other prices.froms i k (with_number (get_or prices.froms i []) numbers.from) [] apart) (are.each k far)

  new : (b : Bool) → eqb (length prices.froms) k ≡ b → k < suc (length prices.froms)
      → get_or (prices.froms ++ with_number [] numbers.from ∷ []) k [] ≡ froms_of (prices.rows ++ new_row (length prices.froms) ∷ []) k
  new true is far =
      let same : k ≡ length prices.froms + 0 = omega (arith, eqb-true (length prices.froms) k is) in
      let none : froms_of prices.rows k ≡ [] = froms_none prices.rows k (subst (λ n. All (λ r. r.supplier < n) prices.rows) (omega (arith, are.as_many)) are.of_suppliers) in
      rw (froms_more prices.rows (new_row (length prices.froms)) k, is, none) (ap (λ (n : ℕ). get_or (prices.froms ++ with_number [] numbers.from ∷ []) n []) same ∙ get_or-append-add prices.froms (with_number [] numbers.from ∷ []) 0 [])
  new false is far =
      let apart : k ≢ length prices.froms = λ (e : k ≡ length prices.froms). false≢true (sym is ∙ eq-eqb (length prices.froms) k (sym e)) in
      let left : k < length prices.froms = omega (arith, apart) in
      rw (froms_more prices.rows (new_row (length prices.froms)) k, is, get_or_append_left prices.froms (with_number [] numbers.from ∷ []) [] k left) (are.each k left)

  go : (b : Bool) → has_name prices.suppliers name ≡ b → k < length (priced prices name good numbers).froms
      → get_or (priced prices name good numbers).froms k [] ≡ froms_of (priced prices name good numbers).rows k
  go true is far =
      let i = position_or_len (bytes_eq name) prices.suppliers in
      let here : i < length prices.froms = omega (arith, place_inside (bytes_eq name) prices.suppliers is, are.as_many) in
      let many = as_many_more prices name good numbers are in
      let named : length (with_name prices.suppliers name) ≡ length prices.suppliers = rw is refl in
      rw (is, lt-ltb i (length prices.froms) here) (there i here (omega (arith, far, many, named, are.as_many)) (eqb i k) refl)
  go false is far =
      let last : position_or_len (bytes_eq name) (prices.suppliers ++ name ∷ []) ≡ length prices.suppliers = place_last (bytes_eq name) prices.suppliers name is (is_same name) in
      let many = as_many_more prices name good numbers are in
      let named : length (with_name prices.suppliers name) ≡ length prices.suppliers + 1 = rw (is, length-append) refl in
      rw (is, last, le-ltb (length prices.suppliers) (length prices.froms) (omega (arith, are.as_many)), sym are.as_many) (new (eqb (length prices.froms) k) refl (omega (arith, far, many, named, are.as_many)))

-- the place of the supplier
pub place_more : (prices : PricesData) (name : List ℕ) (good : ℕ) (numbers : OfferNumbers) → ArePrices prices
    → position_or_len (bytes_eq name) (with_name prices.suppliers name) < length (priced prices name good numbers).froms
place_more prices name good numbers are =
    omega (arith, place_inside (bytes_eq name) (with_name prices.suppliers name) (has_name-added prices.suppliers name), as_many_more prices name good numbers are)

-- the prices of a row without a fault
pub prices_more : (prices : PricesData) (name : List ℕ) (good : ℕ) (numbers : OfferNumbers) → ArePrices prices
    → length (priced prices name good numbers).suppliers ≤ SUPPLIERS_MAX
    → length (get_or (priced prices name good numbers).froms (position_or_len (bytes_eq name) (with_name prices.suppliers name)) []) ≤ INTERVALS_MAX
    → ArePrices (priced prices name good numbers)
prices_more prices name good numbers are few_suppliers few = record {
  as_many = as_many_more prices name good numbers are;
  each = each_more prices name good numbers are;
  few = λ k inside. few_more k inside (eqb (position_or_len (bytes_eq name) (with_name prices.suppliers name)) k) refl;
  few_suppliers = few_suppliers;
  of_suppliers = All-append (λ (r : PriceRow). r.supplier < length (with_name prices.suppliers name)) prices.rows _
      (All-weaker (λ (r : PriceRow). r.supplier < length prices.suppliers) (λ (r : PriceRow). r.supplier < length (with_name prices.suppliers name)) (λ r below. omega (arith, below, more_suppliers)) prices.rows are.of_suppliers)
      (All-cons (λ (r : PriceRow). r.supplier < length (with_name prices.suppliers name)) _ [] added_inside (All-nil (λ (r : PriceRow). r.supplier < length (with_name prices.suppliers name))));
} where
  more_suppliers : length prices.suppliers ≤ length (with_name prices.suppliers name)
  more_suppliers = go (has_name prices.suppliers name) refl where
    go : (b : Bool) → has_name prices.suppliers name ≡ b → length prices.suppliers ≤ length (with_name prices.suppliers name)
    go true is = rw is (omega arith)
    go false is = rw (is, length-append) (omega arith)

  added_inside : position_or_len (bytes_eq name) (with_name prices.suppliers name) < length (with_name prices.suppliers name)
  added_inside = place_inside (bytes_eq name) (with_name prices.suppliers name) (has_name-added prices.suppliers name)

  few_more : (k : ℕ) → k < length (priced prices name good numbers).froms → (b : Bool) → eqb (position_or_len (bytes_eq name) (with_name prices.suppliers name)) k ≡ b
      → length (get_or (priced prices name good numbers).froms k []) ≤ INTERVALS_MAX
  few_more k inside true is = subst (λ n. length (get_or (priced prices name good numbers).froms n []) ≤ INTERVALS_MAX) (eqb-true _ k is) few
  few_more k inside false is =
      let same : get_or (priced prices name good numbers).froms k [] ≡ froms_of prices.rows k =
      each_more prices name good numbers are k inside ∙ froms_more prices.rows (record { supplier = position_or_len (bytes_eq name) (with_name prices.suppliers name); from = numbers.from; good = good; price = numbers.price }) k ∙ rw is refl in
      subst (λ (list : List ℕ). length list ≤ INTERVALS_MAX) (sym same) (froms_few prices are k)
