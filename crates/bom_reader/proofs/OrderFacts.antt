-- Rows of orders without a fault, and the loop that reads them.
use Rattle.std.proofs.Common.{◌≡◌, ◌≢◌, ℕ, ◌+◌, ◌<◌, ◌≤◌, true, false, not, List, [], ◌∷◌, ◌++◌, map, length, get_or, take, None, Result, Ok, Err, refl, sym, ◌∙◌, unwrap_or, arith}
use Rattle.std.proofs.lemmas.Bool.{false≢true, not-false, ltb-false}
use Rattle.std.proofs.lemmas.List.{get_or-map, get_or-take, take-map, length-append, length-map, length-take-le, map-append, take_all, take_more}
use Rattle.std.proofs.lemmas.List.Elements.{All-map}
use Rattle.std.proofs.lemmas.List.Folds.{list_any_at}
use Rattle.std.specs.Prelude.{is_none}
use Rattle.std.specs.List.{AllPairs}
use Rattle.std.specs.Str.{bytes_eq}
use Rattle.tqd_base.specs.declared.limits.TheConstants.{QTY_MAX, NAMES_MAX}
use Rattle.tqd_base.specs.declared.memory.Stop.{Stop}
use Rattle.tqd_base.specs.declared.memory.Stop.TheVariants.{Refused, Memory}
use Rattle.bom_reader.specs.Names.{is_name, has_name, with_name}
use Rattle.bom_reader.specs.Bill.{AreOrders, OrdersData}
use Rattle.bom_reader.specs.Faults.{Answers, first_fault, unless}
use Rattle.bom_reader.specs.Rows.{Row, field}
use Rattle.bom_reader.specs.Orders.{product, order_units, order_fault, order_fault_after, orders_of}
use Rattle.bom_reader.specs.declared.fault.BillFault.{BillFault}
use Rattle.bom_reader.specs.declared.fault.BillFault.TheVariants.{Name, Quantity, TooManyNames, Twice}
use Rattle.bom_reader.proofs.FirstFault.{fault_if-none, first_fault-more, first_fault-at, each-sound, unless-ok, unless-value, unless-err}
use Rattle.bom_reader.proofs.NameFacts.{is_same, with_name-other}
use Rattle.bom_reader.proofs.Units.{units-within}

abbrev pub units_of : Row → ℕ
units_of row = unwrap_or (order_units row) 0

-- a row without a fault, where these names are ordered before it
pub record IsOrder (names : List (List ℕ)) (row : Row) : Type 0 where
  pub name : is_name (product row) ≡ true
  pub units : is_none (order_units row) ≡ false
  pub few : length (with_name names (product row)) ≤ NAMES_MAX
  pub once : has_name names (product row) ≡ false

pub order-sound : (names : List (List ℕ)) (at : ℕ) (row : Row) → order_fault names at row ≡ None → IsOrder names row
order-sound names at row e =
    let a = fault_if-none (not (is_name (product row))) (Name at) _ e in
    let b = fault_if-none (is_none (order_units row)) (Quantity at) _ a.1 in
    let c = fault_if-none _ (TooManyNames at) _ b.1 in
    let d = fault_if-none (has_name names (product row)) (Twice at) None c.1 in
    record { name = not-false (is_name (product row)) a.0; units = b.0; few = ltb-false NAMES_MAX (length (with_name names (product row))) c.0; once = d.0 }

pub order-at : (rows : List Row) → first_fault order_fault_after [] rows ≡ None → (i : ℕ) (d : Row) → i < length rows → IsOrder (map product (take i rows)) (get_or rows i d)
order-at rows none i d inside = order-sound (map product (take i rows)) _ (get_or rows i d) (each-sound order_fault_after [] rows none i d inside)

products-distinct : (rows : List Row) → first_fault order_fault_after [] rows ≡ None → AllPairs (λ a b. a ≢ b) (map product rows)
products-distinct rows none i j d ordered inside same =
    let within : j < length rows = omega (arith, length-map rows product) in
    let once = (order-at rows none j [] within).once in
    let name = product (get_or rows j []) in
    let is : get_or (map product rows) j d ≡ name = get_or-map product rows j [] d within in
    let before : get_or (take j (map product rows)) i d ≡ name = get_or-take j (map product rows) i d ordered ∙ (same ∙ is) in
    let among : i < length (take j (map product rows)) = rw (length-take-le j (map product rows) (omega arith)) ordered in
    let twice : has_name (take j (map product rows)) name ≡ true = list_any_at (bytes_eq name) (take j (map product rows)) i d among (rw before (is_same name)) in
    let names : take j (map product rows) ≡ map product (take j rows) = take-map product j rows in
    false≢true (sym once ∙ (rw names at twice))

few-products : (rows : List Row) → first_fault order_fault_after [] rows ≡ None → length rows ≤ NAMES_MAX
few-products [] none = omega arith
few-products (row ∷ rows) none =
    let last = order-at (row ∷ rows) none (length rows) [] (omega arith) in
    let names = map product (take (length rows) (row ∷ rows)) in
    let count : length names ≡ length rows = length-map (take (length rows) (row ∷ rows)) product ∙ length-take-le (length rows) (row ∷ rows) (omega arith) in
    let name = product (get_or (row ∷ rows) (length rows) []) in
    let more : length (names ++ name ∷ []) ≤ NAMES_MAX = rw (with_name-other names name last.once) at last.few in
    let pushed : length (names ++ name ∷ []) ≡ length names + 1 = length-append names (name ∷ []) in
    omega arith

-- rows without a fault state orders
pub orders-sound : (rows : List Row) → first_fault order_fault_after [] rows ≡ None → AreOrders (map product rows) (map units_of rows)
orders-sound rows none = record {
  few_names = rw length-map (few-products rows none);
  distinct = products-distinct rows none;
  one_each = length-map rows units_of ∙ sym (length-map rows product);
  within = All-map (λ units. units ≤ QTY_MAX) units_of rows (λ i d inside. (units-within 0 QTY_MAX (field 1 (get_or rows i d)) (order-at rows none i d inside).units).1);
}

-- the same row after the same names
same-row : (table : List Row) (i at : ℕ) (names : List (List ℕ)) (name quantity : List ℕ) → names ≡ map product (take i table) → i < length table → at ≡ i + 2 → name ≡ field 0 (get_or table i []) → quantity ≡ field 1 (get_or table i []) → order_fault names at (name ∷ quantity ∷ []) ≡ order_fault_after (take i table) (get_or table i [])
same-row table i at names name quantity earlier inside number first second =
    let place : at ≡ length (take i table) + 2 = rw (length-take-le i table (omega arith)) number in
    rw (earlier, place, first, second) refl

-- what the loop has read before row i of a table
pub record HasOrders (table : List Row) (i : ℕ) (names : List (List ℕ)) (ordered : List ℕ) : Type 0 where
  pub names_are : names ≡ map product (take i table)
  pub ordered_are : ordered ≡ map units_of (take i table)
  pub sound : first_fault order_fault_after [] (take i table) ≡ None
  pub few : i ≤ NAMES_MAX

pub no-orders : (table : List Row) → HasOrders table 0 [] []
no-orders table = record { names_are = refl; ordered_are = refl; sound = refl; few = omega arith }

abbrev pub AnswersRow : List (List ℕ) → ℕ → List ℕ → List ℕ → Result ℕ (Stop BillFault) → Type 0
AnswersRow names at name quantity result = Answers result (unless (order_fault names at (name ∷ quantity ∷ [])) (unwrap_or (order_units (name ∷ quantity ∷ [])) 0))

pub more-orders : (table : List Row) (i at : ℕ) (names names' : List (List ℕ)) (ordered ordered' : List ℕ) (name quantity : List ℕ) (units : ℕ) → HasOrders table i names ordered → i < length table → at ≡ i + 2
    → name ≡ field 0 (get_or table i []) → quantity ≡ field 1 (get_or table i []) → AnswersRow names at name quantity (Ok units) → names' ≡ names ++ name ∷ [] → length names' ≤ NAMES_MAX → ordered' ≡ ordered ++ units ∷ [] → HasOrders table (i + 1) names' ordered'
more-orders table i at names names' ordered ordered' name quantity units h inside number first second answer added few pushed =
    let row = get_or table i [] in
    let fault = order_fault names at (name ∷ quantity ∷ []) in
    let value = unwrap_or (order_units (name ∷ quantity ∷ [])) 0 in
    let fine = sym (same-row table i at names name quantity h.names_are inside number first second) ∙ unless-ok fault value units answer in
    let read : units ≡ units_of row = sym (unless-value fault value units answer) ∙ rw second refl in
    let count : length names ≡ i = rw h.names_are (length-map (take i table) product ∙ length-take-le i table (omega arith)) in
    record {
      names_are = rw (take_more table i [] inside, map-append) (added ∙ rw (h.names_are, first) refl);
      ordered_are = rw (take_more table i [] inside, map-append) (pushed ∙ rw (h.ordered_are, read) refl);
      sound = first_fault-more order_fault_after table i [] inside h.sound fine;
      few = omega (arith, rw added at few, length-append names (name ∷ []));
    }

pub orders-stop : (table : List Row) (i at : ℕ) (names : List (List ℕ)) (ordered : List ℕ) (name quantity : List ℕ) (stop : Stop BillFault) → HasOrders table i names ordered → i < length table → at ≡ i + 2
    → name ≡ field 0 (get_or table i []) → quantity ≡ field 1 (get_or table i []) → AnswersRow names at name quantity (Err stop) → Answers {V = OrdersData} (Err stop) (orders_of table)
orders-stop table i at names ordered name quantity Memory h inside number first second answer = tt
orders-stop table i at names ordered name quantity (Refused fault) h inside number first second answer =
    let faulty = sym (same-row table i at names name quantity h.names_are inside number first second) ∙ unless-err (order_fault names at (name ∷ quantity ∷ [])) _ fault answer in
    rw (first_fault-at order_fault_after table i [] fault inside h.sound faulty) refl

pub all-orders : (table : List Row) (i : ℕ) (names : List (List ℕ)) (ordered : List ℕ) → HasOrders table i names ordered → length table ≤ i → orders_of table ≡ Ok (record { names = names; ordered = ordered })
all-orders table i names ordered h past =
    let whole = take_all i table past in
    let sound : first_fault order_fault_after [] table ≡ None = rw whole at h.sound in
    let all : names ≡ map product table = rw whole at h.names_are in
    let units : ordered ≡ map units_of table = rw whole at h.ordered_are in
    rw (sound, all, units) refl

pub are-orders : (table : List Row) (i : ℕ) (names : List (List ℕ)) (ordered : List ℕ) → HasOrders table i names ordered → AreOrders names ordered
are-orders table i names ordered h = rw (h.names_are, h.ordered_are) (orders-sound (take i table) h.sound)
