-- How what a run keeps stands to what is due in a text.
use Rattle.std.specs.Prelude.{ℕ, ℤ, ◌≡◌, ◌<◌, Bool, true, false, [], List, take, Option, None, Some, Result, Ok, Err}
use Rattle.tqd_instance.specs.declared.job.Job.{Job}
use Rattle.tqd_instance.specs.declared.plan.Plan.{Plan}
use Rattle.tqd_instance.specs.Job.{goods}
use Rattle.tqd_instance.specs.Plan.{units}
use Rattle.tqd_instance.specs.Purchase.{Purchase}
use Rattle.interval_box.specs.declared.boxes.IntervalBox.{IntervalBox}
use denote.Ref.{Bor}
use Rattle.tree_checker.specs.declared.rejection.Why.{Why}
use Rattle.tree_checker.specs.declared.rejection.Rejection.{Rejection}
use Rattle.tree_checker.specs.declared.rejection.Why.TheVariants.{EarlyEnd}
use Rattle.tree_checker.specs.declared.rejection.Verdict.{Verdict}
use Rattle.tree_checker.specs.declared.rejection.Verdict.TheVariants.{Optimal, NoPurchase, Rejected}
use Rattle.tree_checker.specs.declared.due.Due.{Due}
use Rattle.tree_checker.specs.declared.due.Due.TheVariants.{Header, Plan as PlanLine, Buy, Node, Ended}
use Rattle.tree_checker.specs.declared.slots.RowSlots.{RowSlots}
use Rattle.bound_tree.specs.Root.{root_of}
use Rattle.bound_tree.specs.Prices.{Prices, Fits, row_of}
use Rattle.bound_tree.specs.SlotTree.{Slots, no_rows, with_row}
use Rattle.tree_checker.specs.SlotRows.{Holds}
use Rattle.tree_checker.specs.Verdict.{RowStore, in_leaves, in_slots, Phase, at_header, at_plan, at_buys, at_nodes, Step, prices_wanted, row_fault, slot_row_fault, named_fault, nothing_bought, place, is_next, is_split}

-- a row is read: its fault is answered, and without one the places begin with its prices
pub record ReadsRow (job : Job) (area : IntervalBox) (prices places : List ℤ) (answer : Option Why) : Type 0 where
  pub fault : answer ≡ row_fault job area prices
  pub kept : answer ≡ None → take (prices_wanted job area) places ≡ prices

-- a `row` line is read: its fault is answered, and without one its slot has the row
pub record FillsRow (job : Job) (old new : RowSlots) (n : ℕ) (prices : List ℤ) (answer : Option Why) : Type 0 where
  pub in_use : new.in_use ≡ old.in_use
  pub fault : answer ≡ slot_row_fault job n prices
  pub held : (slots : Slots) → answer ≡ None → Holds job old slots → Holds job new (with_row slots n (row_of job prices))

-- a row that is named fits the root and decides of the leaf's fault; where none is named, that is the fault
abbrev pub NamesRow : Job → Slots → Option ℕ → Result (Bor (List ℤ)) Why → Type 0
NamesRow job slots named (Ok prices) = Fits job (root_of job) (row_of job prices.now)
    × ((fault : Prices → Option Why) → named_fault slots fault named ≡ fault (row_of job prices.now))
NamesRow job slots named (Err why) = (fault : Prices → Option Why) → named_fault slots fault named ≡ Some why

-- a plan has the units of a purchase
abbrev pub HasUnits : Job → Plan → Purchase → Type 0
HasUnits job plan x = (i k : ℕ) → k < goods job → units plan i k ≡ x i k

-- the slots are those of a text of this format
abbrev pub AreRows : Job → RowSlots → RowStore → Type 0
AreRows job kept in_leaves = kept.in_use ≡ false
AreRows job kept (in_slots slots) = (kept.in_use ≡ true) × Holds job kept slots

-- what is kept is what is due
abbrev pub IsDue : Job → Due → Plan → List IntervalBox → RowSlots → Phase → Type 0
IsDue job due plan boxes kept at_header = (due ≡ Header) × HasUnits job plan nothing_bought × (kept.in_use ≡ false) × Holds job kept no_rows
IsDue job due plan boxes kept (at_plan store) = (due ≡ PlanLine) × HasUnits job plan nothing_bought × AreRows job kept store
IsDue job due plan boxes kept (at_buys store p) = (due ≡ Buy p.cost p.left p.next) × HasUnits job plan p.bought × AreRows job kept store
IsDue job due plan boxes kept (at_nodes store best areas) = (due ≡ Node best) × (boxes ≡ areas) × AreRows job kept store

-- what a line leads to is answered and kept
abbrev pub Leads : Job → Plan → List IntervalBox → RowSlots → Result Due Rejection → Step → Type 0
Leads job plan boxes kept (Ok due) (Ok phase) = IsDue job due plan boxes kept phase
Leads job plan boxes kept (Err rejection) (Err other) = rejection ≡ other
Leads job plan boxes kept _ _ = ⊥

-- what is kept is what a line leads to
abbrev pub IsKept : Job → Due → Plan → List IntervalBox → RowSlots → Step → Type 0
IsKept job due plan boxes kept (Ok phase) = IsDue job due plan boxes kept phase
IsKept job due plan boxes kept (Err rejection) = due ≡ Ended rejection

-- the place of a `buy` line, where it may be the next one
abbrev pub IsNextPlace : Job → ℕ → ℕ → ℕ → ℕ → Option ℕ → Type 0
IsNextPlace job next i k n (Some at) = (is_next job next i k n ≡ true) × (at ≡ place job i k)
IsNextPlace job next i k n None = is_next job next i k n ≡ false

-- a split that is proper for a box
abbrev pub IsSplitPlace : Job → IntervalBox → ℕ → ℕ → Option (ℕ × ℕ) → Type 0
IsSplitPlace job area i s (Some p) = (is_split job area i s ≡ true) × (p.0 ≡ i) × (p.1 ≡ s)
IsSplitPlace job area i s None = is_split job area i s ≡ false

abbrev pub has_none : List IntervalBox → Bool
has_none [] = true
has_none _ = false

-- a node is due, and no box is: the tree is whole
abbrev pub is_whole_at : Due → List IntervalBox → Bool
is_whole_at (Node best) [] = true
is_whole_at _ _ = false

-- the verdict by what is due, whether no box is, and the number of the next line
abbrev pub verdict_by : Due → Bool → ℕ → Verdict
verdict_by (Ended rejection) none line = Rejected rejection
verdict_by (Node (Some cost)) true line = Optimal cost
verdict_by (Node None) true line = NoPurchase
verdict_by due none line = Rejected (record { line = line; why = EarlyEnd })
