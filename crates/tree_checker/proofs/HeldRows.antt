-- Rows in slots, as they are kept.
use Rattle.std.proofs.Common.{ℕ, ℤ, ◌≡◌, ◌<◌, ◌≤◌, Bool, true, false, List, [], ◌∷◌, map, length, set, get_or, find, replicate, if◌then◌else◌, Some, None, refl, ap, sym, ◌∙◌, subst, arith}
use Rattle.std.specs.List.{All}
use Rattle.std.proofs.lemmas.List.{map-set, length-map, get_or_past, get_or-map}
use Rattle.std.proofs.lemmas.List.Elements.{All-weaker, All-head, All-tail}
use Rattle.tqd_instance.specs.declared.job.Job.{Job}
use Rattle.bound_tree.specs.declared.slots.TheConstants.{SLOTS_MAX}
use Rattle.bound_tree.specs.Root.{root_of}
use Rattle.bound_tree.specs.Prices.{Fits, row_of}
use Rattle.bound_tree.specs.LineHead.{is_beyond}
use Rattle.bound_tree.proofs.OneList.{fits_as_one}
use Rattle.bound_tree.specs.SlotTree.{Slots, row_in, with_row}
use Rattle.tree_checker.specs.declared.slots.SlotRow.{SlotRow}
use Rattle.tree_checker.specs.Verdict.{prices_wanted}
use Rattle.tree_checker.specs.SlotRows.{given_row, IsSlotRow}
use Rattle.tree_checker.proofs.Leaves.{prices_within}

given_as : (job : Job) (row : SlotRow) (prices : List ℤ) (given : Bool) → row.given ≡ given → given ≡ true → row.prices.items ≡ prices → given_row job row ≡ Some (row_of job prices)
given_as job row prices true is so same = rw is (ap (λ (ps : List ℤ). Some (row_of job ps)) same)
given_as job row prices false is so same = absurd (let other = so in cc)

-- a slot that is given a row has it
pub held_more : (job : Job) (rows : List SlotRow) (slots : Slots) (n : ℕ) (row : SlotRow) (prices : List ℤ) → row.given ≡ true → row.prices.items ≡ prices
    → map (given_row job) rows ≡ slots → map (given_row job) (set rows n row) ≡ with_row slots n (row_of job prices)
unfolding with_row
held_more job rows slots n row prices given same held =
    map-set (given_row job) rows n row
    ∙ (ap (λ (ss : Slots). set ss n (given_row job row)) held ∙ ap (set slots n) (given_as job row prices row.given refl given same))

-- there is no row past the slots
pub none_past : (job : Job) (rows : List SlotRow) (slots : Slots) (n : ℕ) → length rows ≡ SLOTS_MAX → SLOTS_MAX ≤ n → map (given_row job) rows ≡ slots → row_in slots n ≡ None
unfolding row_in
none_past job rows slots n count past held = get_or_past slots n None (omega (arith, count, past, length-map rows (given_row job), ap length held))

-- the row of a slot
pub row_at : (job : Job) (rows : List SlotRow) (slots : Slots) (n : ℕ) (row : SlotRow) → n < length rows → get_or rows n row ≡ row → map (given_row job) rows ≡ slots → row_in slots n ≡ given_row job row
unfolding row_in
row_at job rows slots n row below is held =
    ap (λ (ss : Slots). get_or ss n None) (sym held) ∙ (get_or-map (given_row job) rows n row None below ∙ ap (given_row job) is)

pub row_given : (job : Job) (rows : List SlotRow) (slots : Slots) (n : ℕ) (row : SlotRow) → n < length rows → get_or rows n row ≡ row → map (given_row job) rows ≡ slots → row.given ≡ true
    → row_in slots n ≡ Some (row_of job row.prices.items)
row_given job rows slots n row below is held given = row_at job rows slots n row below is held ∙ given_as job row row.prices.items row.given refl given refl

pub row_missing : (job : Job) (rows : List SlotRow) (slots : Slots) (n : ℕ) (row : SlotRow) → n < length rows → get_or rows n row ≡ row → map (given_row job) rows ≡ slots → row.given ≡ false
    → row_in slots n ≡ None
row_missing job rows slots n row below is held none = row_at job rows slots n row below is held ∙ rw none refl

-- a row that was given fits the root
pub fits_root : (job : Job) (rows : List SlotRow) (n : ℕ) (row : SlotRow) → n < length rows → get_or rows n row ≡ row → All (IsSlotRow job) rows → row.given ≡ true
    → Fits job (root_of job) (row_of job row.prices.items)
fits_root job rows n row below is each given = (subst (IsSlotRow job) is (each n row below)).fits given

-- prices that were read without a fault are a row of the root
pub read_fits : (job : Job) (prices : List ℤ) → length prices ≡ prices_wanted job (root_of job) → find is_beyond prices ≡ None → Fits job (root_of job) (row_of job prices)
read_fits job prices count none = (fits_as_one job (root_of job) prices).1 (record { count = count; in_range = prices_within prices none })

-- an empty slot
pub record IsBare (wanted : ℕ) (row : SlotRow) : Type 0 where
  pub none : row.given ≡ false
  pub count : length row.prices.items ≡ wanted

pub bare_rows : (job : Job) (wanted : ℕ) (rows : List SlotRow) → wanted ≡ prices_wanted job (root_of job) → All (IsBare wanted) rows → All (IsSlotRow job) rows
bare_rows job wanted rows is all = All-weaker (IsBare wanted) (IsSlotRow job) (λ row bare. record {
  count = bare.count ∙ is;
  fits = λ given. absurd (let no = sym bare.none ∙ given in cc);
}) rows all

pub bare_none : (job : Job) (wanted : ℕ) (rows : List SlotRow) → All (IsBare wanted) rows → map (given_row job) rows ≡ replicate (length rows) None
bare_none job wanted [] all = refl
bare_none job wanted (row ∷ rows) all =
    let none = (All-head (IsBare wanted) row rows all).none in
    let later = bare_none job wanted rows (All-tail (IsBare wanted) row rows all) in
    (λ j. (if none j then Some (row_of job row.prices.items) else None) ∷ later j)
