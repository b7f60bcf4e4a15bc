-- When orders come, and when each fault.
use Rattle.std.proofs.Common.{◌≡◌, ◌≢◌, ℕ, ◌+◌, ◌<◌, ◌≤◌, Bool, true, false, not, ltb, List, [], ◌∷◌, map, length, get_or, take, Contains, Option, None, Some, Ok, Err, refl, sym, ap, ◌∙◌, inl, inr, unwrap_or, is_some, arith}
use Rattle.std.proofs.lemmas.Bool.{false≢true, le-ltb, lt-ltb, ltb-true, not-false, not-true, not_from_true}
use Rattle.std.proofs.lemmas.List.{get_or-map, get_or-take, length-append, length-map, length-take-le, take-map}
use Rattle.std.proofs.lemmas.List.Elements.{All-cons, All-head, All-map, All-nil, All-tail}
use Rattle.std.proofs.lemmas.Option.{none-some}
use Rattle.std.specs.Prelude.{All, IsSome, is_none}
use Rattle.std.specs.List.{AllPairs}
use Rattle.tqd_base.specs.declared.limits.TheConstants.{NAMES_MAX}
use Rattle.bom_reader.specs.Bill.{OrdersData}
use Rattle.bom_reader.specs.Faults.{first_fault}
use Rattle.bom_reader.specs.Laws.{IsName, IsOrderFault, IsOrderRow, OrderFaultsAreFirst, OrdersAreWhole, StandsAfter, StatesOrders}
use Rattle.bom_reader.specs.Names.{has_name, is_name, with_name}
use Rattle.bom_reader.specs.Orders.{order_fault_after, order_units, orders_of, product}
use Rattle.bom_reader.specs.Rows.{Row, row_number}
use Rattle.bom_reader.specs.declared.fault.BillFault.{BillFault}
use Rattle.bom_reader.specs.declared.fault.BillFault.TheVariants.{Rows, TooManyLines, Name, Quantity, TooManyNames, Twice}
use Rattle.bom_reader.proofs.FirstFault.{fault_if-some, first-from, first-to, sound-each, unless-err, unless-ok, unless-value}
use Rattle.bom_reader.proofs.NameFacts.{with_name-other}
use Rattle.bom_reader.proofs.NameLaws.{has-from, has-not-from, has-not-to, has-to, name-from, name-to, no-name-from, no-name-to, with_name-same}
use Rattle.bom_reader.proofs.OrderFacts.{order-at, orders-sound, units_of}

-- quantities of rows
pub is-there : {X : Type 0} (o : Option X) → is_none o ≡ false → IsSome o
is-there o e = not-false (is_some o) e

pub value-there : (o : Option ℕ) → is_none o ≡ false → Some (unwrap_or o 0) ≡ o
value-there None e = absurd (false≢true (sym e))
value-there (Some n) e = refl

units-are : (rows : List Row) → All (λ row. is_none (order_units row) ≡ false) rows → map (λ units. Some units) (map units_of rows) ≡ map order_units rows
units-are [] all = refl
units-are (row ∷ rows) all =
    let first = value-there (order_units row) (All-head (λ (r : Row). is_none (order_units r) ≡ false) row rows all) in
    rw (first, units-are rows (All-tail (λ (r : Row). is_none (order_units r) ≡ false) row rows all)) refl

unwrapped : (units : List ℕ) → map (λ o. unwrap_or o 0) (map (λ n. Some n) units) ≡ units
unwrapped [] = refl
unwrapped (n ∷ units) = rw (unwrapped units) refl

units-of : (rows : List Row) → map (λ o. unwrap_or o 0) (map order_units rows) ≡ map units_of rows
units-of [] = refl
units-of (row ∷ rows) = rw (units-of rows) refl

each-there : (units : List ℕ) (rows : List Row) → map (λ n. Some n) units ≡ map order_units rows → All (λ row. is_none (order_units row) ≡ false) rows
each-there units [] e = All-nil (λ (row : Row). is_none (order_units row) ≡ false)
each-there [] (row ∷ rows) e = cc e
each-there (n ∷ units) (row ∷ rows) e =
    let first : Some n ≡ order_units row = cc e in
    let others : map (λ m. Some m) units ≡ map order_units rows = cc e in
    All-cons (λ (r : Row). is_none (order_units r) ≡ false) row rows (rw (← first) refl) (each-there units rows others)

-- orders come
orders-to : (rows : List Row) (orders : OrdersData) → orders_of rows ≡ Ok orders → StatesOrders rows orders
orders-to rows orders e =
    let value : OrdersData = record { names = map product rows; ordered = map units_of rows } in
    let none : first_fault order_fault_after [] rows ≡ None = unless-ok (first_fault order_fault_after [] rows) value orders e in
    let is : value ≡ orders = unless-value (first_fault order_fault_after [] rows) value orders e in
    let are = orders-sound rows none in
    rw (← is) (record {
      names_are = refl;
      units_are = units-are rows (λ i d inside. (order-at rows none i d inside).units);
      each_name = All-map IsName product rows (λ i d inside. name-to (product (get_or rows i d)) (order-at rows none i d inside).name);
      distinct = are.distinct;
      few_names = are.few_names;
    })

-- a row of rows that state orders
sound-row : (rows : List Row) (orders : OrdersData) → StatesOrders rows orders → (i : ℕ) (d : Row) → i < length rows → order_fault_after (take i rows) (get_or rows i d) ≡ None
sound-row rows orders h i d inside =
    let names = map product (take i rows) in
    let name = product (get_or rows i d) in
    let among : i < length (map product rows) = rw (length-map rows product) inside in
    let is : get_or (map product rows) i [] ≡ name = get_or-map product rows i d [] inside in
    let all : All IsName (map product rows) = rw h.names_are at h.each_name in
    let sound : is_name name ≡ true = name-from name (rw is at (all i [] among)) in
    let units = each-there orders.ordered rows h.units_are i d inside in
    let distinct : AllPairs (λ a b. a ≢ b) (map product rows) = rw h.names_are at h.distinct in
    let new : ¬ (Contains (take i (map product rows)) name) = λ c.
    let before : c.0 < i = omega (arith, length-take-le i (map product rows) (omega arith)) in
    distinct c.0 i name before among (sym (get_or-take i (map product rows) c.0 name before) ∙ (c.2 ∙ sym (get_or-map product rows i d name inside))) in
    let once : has_name names name ≡ false = has-not-from names name (rw (take-map product i rows) at new) in
    let count : length names ≡ i = length-map (take i rows) product ∙ length-take-le i rows (omega arith) in
    let some : length rows ≤ NAMES_MAX = rw (h.names_are, length-map rows product) at h.few_names in
    let few : length (with_name names name) ≤ NAMES_MAX = rw (with_name-other names name once, length-append names (name ∷ [])) (omega arith) in
    rw (sound, units, le-ltb NAMES_MAX (length (with_name names name)) few, once) refl

orders-from : (rows : List Row) (orders : OrdersData) → StatesOrders rows orders → orders_of rows ≡ Ok orders
orders-from rows orders h =
    let none = sound-each order_fault_after [] rows (sound-row rows orders h) in
    let units : map units_of rows ≡ orders.ordered = sym (units-of rows) ∙ (ap (λ all. map (λ o. unwrap_or o 0) all) (sym h.units_are) ∙ unwrapped orders.ordered) in
    rw (none, units, ← h.names_are) refl

pub orders_are_whole : OrdersAreWhole
orders_are_whole rows orders = (orders-to rows orders, orders-from rows orders)

-- the first fault of a row
pub no-value : {X : Type 0} (o : Option X) → is_none o ≡ true → o ≡ None
no-value None e = refl
no-value (Some x) e = absurd (false≢true e)

pub some-value : {X : Type 0} (o : Option X) → IsSome o → is_none o ≡ false
some-value o e = not_from_true (is_some o) e

too-many : (before : List Row) (orders : OrdersData) (row : Row) → StatesOrders before orders → ltb NAMES_MAX (length (with_name (map product before) (product row))) ≡ true → ¬ (Contains (map product before) (product row)) × (length before ≡ NAMES_MAX)
too-many before orders row h many = go (has_name (map product before) (product row)) refl where
  few : length before ≤ NAMES_MAX
  few = rw (h.names_are, length-map before product) at h.few_names

  more : NAMES_MAX < length (with_name (map product before) (product row))
  more = ltb-true NAMES_MAX (length (with_name (map product before) (product row))) many

  go : (b : Bool) → has_name (map product before) (product row) ≡ b → ¬ (Contains (map product before) (product row)) × (length before ≡ NAMES_MAX)
  go true is = let above : NAMES_MAX < length before = rw (with_name-same (map product before) (product row) is, length-map before product) at more in absurd (omega (arith, few))
  go false is = let above : NAMES_MAX < length before + 1 = rw (with_name-other (map product before) (product row) is, length-append (map product before) (product row ∷ []), length-map before product) at more in (has-not-to (map product before) (product row) is, omega (arith, few))

fault-to : (rows before : List Row) (orders : OrdersData) (row : Row) (fault : BillFault) → StatesOrders before orders → StandsAfter rows before row (row_number before) → order_fault_after before row ≡ Some fault → IsOrderFault rows before row fault
fault-to rows before orders row fault h stands e =
    let at = row_number before in
    elim (fault_if-some (not (is_name (product row))) (Name at) fault _ e) [
      | inl name ↦ rw name.1 (stands, no-name-to (product row) (not-true (is_name (product row)) name.0))
      | inr named ↦ let sound = name-to (product row) (not-false (is_name (product row)) named.0) in elim (fault_if-some (is_none (order_units row)) (Quantity at) fault _ named.1) [
        | inl units ↦ rw units.1 (stands, sound, no-value (order_units row) units.0)
        | inr counted ↦ let full : IsOrderRow row = (sound, is-there (order_units row) counted.0) in elim (fault_if-some (ltb NAMES_MAX (length (with_name (map product before) (product row)))) (TooManyNames at) fault _ counted.1) [
          | inl many ↦ let p = too-many before orders row h many.0 in rw many.1 (stands, full, p.0, p.1)
          | inr few ↦ elim (fault_if-some (has_name (map product before) (product row)) (Twice at) fault None few.1) [
            | inl twice ↦ rw twice.1 (stands, full, has-to (map product before) (product row) twice.0)
            | inr nothing ↦ absurd (none-some fault nothing.1)
          ]
        ]
      ]
    ]

fault-from : (rows before : List Row) (orders : OrdersData) (row : Row) (fault : BillFault) → StatesOrders before orders → IsOrderFault rows before row fault → StandsAfter rows before row (row_number before) × (order_fault_after before row ≡ Some fault)
fault-from rows before orders row (Rows fault) h is = absurd is
fault-from rows before orders row TooManyLines h is = absurd is
fault-from rows before orders row (Name at) h is = (rw is.0.number at is.0, rw (no-name-from (product row) is.1, is.0.number) refl)
fault-from rows before orders row (Quantity at) h is = (rw is.0.number at is.0, rw (name-from (product row) is.1, is.2, is.0.number) refl)
fault-from rows before orders row (TooManyNames at) h is =
    let other = has-not-from (map product before) (product row) is.2 in
    let more : NAMES_MAX < length (with_name (map product before) (product row)) = rw (with_name-other (map product before) (product row) other, length-append (map product before) (product row ∷ []), length-map before product, is.3) (omega arith) in
    (rw is.0.number at is.0, rw (name-from (product row) is.1.0, some-value (order_units row) is.1.1, lt-ltb NAMES_MAX (length (with_name (map product before) (product row))) more, is.0.number) refl)
fault-from rows before orders row (Twice at) h is =
    let same = has-from (map product before) (product row) is.2 in
    let few : length (with_name (map product before) (product row)) ≤ NAMES_MAX = rw (with_name-same (map product before) (product row) same, ← h.names_are) h.few_names in
    (rw is.0.number at is.0, rw (name-from (product row) is.1.0, some-value (order_units row) is.1.1, le-ltb NAMES_MAX (length (with_name (map product before) (product row))) few, same, is.0.number) refl)

pub order_faults_are_first : OrderFaultsAreFirst
order_faults_are_first rows fault = (to, from) where
  to : orders_of rows ≡ Err fault → (before : List Row) × (row : Row) × (orders : OrdersData) × StatesOrders before orders × IsOrderFault rows before row fault
  to e =
      let first = first-to order_fault_after [] rows fault (unless-err (first_fault order_fault_after [] rows) _ fault e) in
      let orders : OrdersData = record { names = map product first.before; ordered = map units_of first.before } in
      let states = orders-to first.before orders (rw first.sound refl) in
      let stands : StandsAfter rows first.before first.row (row_number first.before) = record { after = first.after; rows_are = first.rows_are; number = refl } in
      (first.before, first.row, orders, states, fault-to rows first.before orders first.row fault states stands first.faulty)

  from : ((before : List Row) × (row : Row) × (orders : OrdersData) × StatesOrders before orders × IsOrderFault rows before row fault) → orders_of rows ≡ Err fault
  from h =
      let at = fault-from rows h.0 h.2 h.1 fault h.3 h.4 in
      let sound = unless-ok (first_fault order_fault_after [] h.0) _ h.2 (orders-from h.0 h.2 h.3) in
      rw (first-from order_fault_after rows h.0 h.1 at.0.after fault at.0.rows_are sound at.1) refl
