-- The bill that orders and rows without a fault make.
use Rattle.std.proofs.Common.{◌≡◌, ◌≢◌, ℕ, ◌-◌, ◌≤◌, Bool, true, false, cond, List, [], ◌∷◌, ◌++◌, map, length, take, replicate, Ok, refl, ◌∙◌, arith}
use Rattle.std.proofs.lemmas.Bool.{le-ltb}
use Rattle.std.proofs.lemmas.List.{length-append, length-map, length-replicate, take_all}
use Rattle.std.proofs.lemmas.List.Elements.{All-append, All-replicate}
use Rattle.std.specs.List.{AllPairs}
use Rattle.tqd_base.specs.declared.limits.TheConstants.{QTY_MAX, LINES_MAX}
use Rattle.bom_reader.specs.Names.{has_name, with_name, with_names}
use Rattle.bom_reader.specs.Bill.{AreOrders, IsBill}
use Rattle.bom_reader.specs.Faults.{first_fault, unless}
use Rattle.bom_reader.specs.Rows.{Row}
use Rattle.bom_reader.specs.Lines.{names_in, line_fault_after, line_of, bill_of}
use Rattle.bom_reader.specs.declared.line.Line.{Line}
use Rattle.bom_reader.proofs.FirstFault.{unless-ok, unless-value}
use Rattle.bom_reader.proofs.LineFacts.{few-names, lines-sound}

length-with_name : (names : List (List ℕ)) (name : List ℕ) → length names ≤ length (with_name names name)
length-with_name names name = go (has_name names name) where
  go : (b : Bool) → length names ≤ length (cond b names (names ++ name ∷ []))
  go true = omega arith
  go false = rw length-append (omega arith)

pub length-with_names : (names more : List (List ℕ)) → length names ≤ length (with_names names more)
length-with_names names [] = omega arith
length-with_names names (name ∷ more) =
    let one = length-with_name names name in
    let rest = length-with_names (with_name names name) more in
    omega arith

-- what a reader of the lines has made of orders and a table
pub record ReadsLines (names names' : List (List ℕ)) (ordered ordered' : List ℕ) (table : List Row) (lines : List Line) : Type 0 where
  pub orders : AreOrders names ordered
  pub few_rows : length table ≤ LINES_MAX
  pub names_are : names' ≡ with_names names (names_in table)
  pub answer : unless (first_fault (line_fault_after names) [] table) (map (line_of names') table) ≡ Ok lines
  pub ordered_are : ordered' ≡ ordered ++ replicate (length names' - length ordered) 0

-- where the quantities of the orders are filled up with zeros to the number of names
pub reads-lines : (names names' : List (List ℕ)) (ordered ordered' : List ℕ) (table : List Row) (lines : List Line) (units count rows : ℕ) → AreOrders names ordered → rows ≡ length table → rows ≤ LINES_MAX → names' ≡ with_names names (names_in table)
    → unless (first_fault (line_fault_after names) [] table) (map (line_of names') table) ≡ Ok lines → units ≡ length ordered → count ≡ length names' → ordered' ≡ take count ordered ++ replicate (count - units) 0
    → ReadsLines names names' ordered ordered' table lines
reads-lines names names' ordered ordered' table lines units count rows orders size few added answer is-units is-count filled =
    let longer : length names ≤ length names' = rw added (length-with_names names (names_in table)) in
    let one = orders.one_each in
    let whole : take (length names') ordered ≡ ordered = take_all (length names') ordered (omega arith) in
    record {
      orders = orders;
      few_rows = rw size at few;
      names_are = added;
      answer = answer;
      ordered_are = filled ∙ rw (is-units, is-count, whole) refl;
    }

pub bill-kept : (names names' : List (List ℕ)) (ordered ordered' : List ℕ) (table : List Row) (lines : List Line) → ReadsLines names names' ordered ordered' table lines → AllPairs (λ a b. a ≢ b) names'
    → IsBill (record { names = names'; ordered = ordered'; lines = lines })
bill-kept names names' ordered ordered' table lines r distinct =
    let sound = unless-ok (first_fault (line_fault_after names) [] table) (map (line_of names') table) lines r.answer in
    let are = unless-value (first_fault (line_fault_after names) [] table) (map (line_of names') table) lines r.answer in
    let longer : length names ≤ length names' = rw r.names_are (length-with_names names (names_in table)) in
    let count = r.orders.one_each in
    record {
      orders = record {
        few_names = rw r.names_are (few-names names table r.orders.few_names sound);
        distinct = distinct;
        one_each = rw (r.ordered_are, length-append, length-replicate) (omega arith);
        within = rw r.ordered_are (All-append (λ units. units ≤ QTY_MAX) ordered (replicate (length names' - length ordered) 0) r.orders.within (All-replicate (λ units. units ≤ QTY_MAX) (length names' - length ordered) 0 (omega arith)));
      };
      few_lines = rw (← are, length-map) r.few_rows;
      each_line = rw (← are, r.names_are) (lines-sound names table sound);
    }

pub bill-is : (names names' : List (List ℕ)) (ordered ordered' : List ℕ) (table : List Row) (lines : List Line) → ReadsLines names names' ordered ordered' table lines
    → bill_of (record { names = names; ordered = ordered }) table ≡ Ok (record { names = names'; ordered = ordered'; lines = lines })
bill-is names names' ordered ordered' table lines r =
    let sound = unless-ok (first_fault (line_fault_after names) [] table) (map (line_of names') table) lines r.answer in
    let are = unless-value (first_fault (line_fault_after names) [] table) (map (line_of names') table) lines r.answer in
    rw (le-ltb LINES_MAX (length table) r.few_rows, sound, ← are, r.ordered_are, r.names_are) refl
