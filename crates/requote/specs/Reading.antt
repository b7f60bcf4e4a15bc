-- What reading an old text keeps, and how it stands to what the text comes to.
use Rattle.std.specs.Prelude.{ℕ, ℤ, suc, ◌≡◌, ◌<◌, Bool, true, false, List, [], ◌∷◌, length, Option, None, Some}
use Rattle.std.specs.List.{All}
use Rattle.std.specs.Option.{option_and_then}
use Rattle.tqd_base.specs.World.{Bytes}
use Rattle.tqd_instance.specs.declared.job.Job.{Job}
use Rattle.tqd_instance.specs.declared.plan.Plan.{Plan}
use Rattle.tqd_instance.specs.Purchase.{Purchase}
use Rattle.interval_box.specs.declared.boxes.IntervalBox.{IntervalBox}
use Rattle.interval_box.specs.Halves.{IsProper}
use Rattle.bound_tree.specs.declared.leaf.Leaf.{Leaf}
use Rattle.bound_tree.specs.declared.leaf.Leaf.TheVariants.{Bound, Empty}
use Rattle.bound_tree.specs.declared.line.LineHead.{LineHead}
use Rattle.bound_tree.specs.Root.{root_of}
use Rattle.bound_tree.specs.Prices.{Prices, Fits, row_of}
use Rattle.bound_tree.specs.OtherBox.{narrowed}
use Rattle.bound_tree.specs.SlotTree.{row_in}
use Rattle.bound_tree.specs.Kills.{Kills}
use Rattle.search_book.specs.declared.node.Node.{Node}
use Rattle.search_book.specs.declared.node.Phase.TheVariants.{Open}
use Rattle.search_book.specs.Nodes.{area_of, HasPhase}
use Rattle.search_book.specs.BookState.{BookState, best_cost}
use Rattle.search_book.specs.Answers.{IsTakenAt}
use Rattle.search_book.specs.Events.{Event, take_node, Happens}
use Rattle.search_book.specs.Runs.{Leads}
use Rattle.tree_checker.specs.declared.slots.RowSlots.{RowSlots}
use Rattle.tree_checker.specs.Verdict.{RowStore}
use Rattle.tree_checker.specs.Judged.{HasUnits}
use Rattle.tree_checker.specs.SlotRows.{rows_in, store_of}
use Rattle.requote.specs.declared.graft.DueNode.{DueNode}
use Rattle.requote.specs.declared.graft.Grafter.{Grafter}
use Rattle.requote.specs.declared.head.Head.{Head}
use Rattle.requote.specs.declared.head.Head.TheVariants.{Wrong, NoPlan, Plan as PlanHead}
use Rattle.requote.specs.declared.row.LeafRow.{LeafRow}
use Rattle.requote.specs.declared.row.LeafRow.TheVariants.{OfBox, OfRoot}
use Rattle.requote.specs.declared.said.RowLeaf.{RowLeaf}
use Rattle.requote.specs.declared.said.RowLeaf.TheVariants.{Bound as BoundLeaf, Empty as EmptyLeaf}
use Rattle.requote.specs.declared.said.Said.{Said}
use Rattle.requote.specs.declared.said.Said.TheVariants.{Splits, Kills as KillsBox, FallsShort, Nothing}
use Rattle.requote.specs.declared.said.Target.{Target}
use Rattle.requote.specs.Head.{OldHead, Buying, after_buys}
use Rattle.requote.specs.Said.{bound_kills, empty_kills, leaf_row, leaf_said, said, row_said}
use Rattle.requote.specs.Graft.{IsPlanOf, said_events, node_events}
use denote.Ref.{Bor}

-- the first of the lines that are left, where there is one, is taken
abbrev pub TakesLine : List Bytes → List Bytes → Option (Bor Bytes) → Type 0
TakesLine old new None = (old ≡ []) × (new ≡ [])
TakesLine old new (Some line) = old ≡ line.now ∷ new

-- where a `buy` line was read, the rest of the plan is read from the lines after it; where none was, no plan is read
abbrev pub BuysOne : Job → Buying → List Bytes → Plan → List Bytes → Option ℕ → Type 0
BuysOne job buying old plan new None = (store : RowStore) (left : ℕ) → after_buys job store (suc left) buying old ≡ None
BuysOne job buying old plan new (Some next) = (x : Purchase) × HasUnits job plan x
    × ((store : RowStore) (left : ℕ)
    → after_buys job store (suc left) buying old ≡ after_buys job store left (record { next = next; bought = x }) new)

-- the head of a text is read, and these lines are left
abbrev pub ReadsHead : Job → RowStore → List Bytes → Option OldHead → Head → Type 0
ReadsHead job store lines head Wrong = head ≡ None
ReadsHead job store lines head NoPlan = head ≡ Some (record { store = store; bought = None; lines = lines })
ReadsHead job store lines head (PlanHead plan) = (x : Purchase) × IsPlanOf job x plan
    × (head ≡ Some (record { store = store; bought = Some x; lines = lines }))

-- the row of a leaf for a box
abbrev pub row_in_box : Job → IntervalBox → LeafRow → Prices
row_in_box job area (OfBox prices) = row_of job prices.now
row_in_box job area (OfRoot prices) = narrowed job (root_of job) area (row_of job prices.now)

abbrev pub FitsAs : Job → IntervalBox → LeafRow → Type 0
FitsAs job area (OfBox prices) = Fits job area (row_of job prices.now)
FitsAs job area (OfRoot prices) = Fits job (root_of job) (row_of job prices.now)

-- a leaf with a row
abbrev pub row_leaf : RowLeaf → Prices → Leaf
row_leaf BoundLeaf row = Bound row
row_leaf EmptyLeaf row = Empty row

-- whether it kills the box
abbrev pub row_kills : Target → RowLeaf → Prices → Bool
row_kills target BoundLeaf row = bound_kills target.job.now target.best target.area row
row_kills target EmptyLeaf row = empty_kills target.job.now target.area row

-- what it says of the box, where it has a row that fits
abbrev pub IsLeafSaid : Target → RowLeaf → Option Prices → Said → Type 0
IsLeafSaid target leaf row answer = answer ≡ leaf_said (row_kills target leaf) (row_leaf leaf) row

-- the row of a leaf for a box, by the slots that were filled
abbrev pub target_row : Target → RowSlots → List ℤ → Option Prices
target_row target kept prices = leaf_row target.job.now (store_of target.job.now kept) target.area prices

-- what a line says of a box
abbrev pub IsSaid : Target → RowSlots → Option LineHead → List ℤ → Said → Type 0
IsSaid target kept head prices answer =
    answer ≡ said target.job.now (store_of target.job.now kept) target.best target.area head prices

-- the row of the root in the slot that is named, or there is none
abbrev pub NamesRow : Job → RowSlots → Option ℕ → Option (Bor (List ℤ)) → Type 0
NamesRow job kept named None = option_and_then (row_in (rows_in job kept)) named ≡ None
NamesRow job kept named (Some prices) = Fits job (root_of job) (row_of job prices.now)
    × (option_and_then (row_in (rows_in job kept)) named ≡ Some (row_of job prices.now))

-- what is said of a box can be done: the split is proper, the leaf kills
abbrev pub CanDo : Job → Option ℕ → IntervalBox → Said → Type 0
CanDo job best area (Splits i s) = IsProper area i s
CanDo job best area (KillsBox leaf) = Kills job area best leaf
CanDo job best area FallsShort = Unit {0}
CanDo job best area Nothing = Unit {0}

abbrev pub CanDoIn : Target → Said → Type 0
CanDoIn target = CanDo target.job.now target.best target.area

-- the node on top, where there is one, is taken off
abbrev pub TakesNode : List DueNode → List DueNode → Option DueNode → Type 0
TakesNode old new None = old ≡ []
TakesNode old new (Some node) = old ≡ node ∷ new

-- nodes that are Open, with their boxes, by falling numbers
unfoldable pub AreOpen : List Node → List DueNode → Type 0
AreOpen nodes [] = Unit {0}
AreOpen nodes (node ∷ due) = HasPhase nodes node.number Open × (area_of nodes node.number ≡ node.area)
    × All (λ other. other.number < node.number) due × AreOpen nodes due

-- a node is Taken, and others are due after it
pub record IsAt (grafter : Grafter) (node : DueNode) : Type 0 where
  pub taken : IsTakenAt grafter.book node.number node.area
  pub open_ones : AreOpen grafter.book.nodes grafter.due

-- the book has one node, which is Open and has the root of the job
pub record IsAtRoot (s : BookState) : Type 0 where
  pub count : length s.nodes ≡ 1
  pub is_open : HasPhase s.nodes 0 Open
  pub area : area_of s.nodes 0 ≡ root_of s.job

-- where the rows are that were given
abbrev pub store_in : Grafter → RowStore
store_in grafter = store_of grafter.book.job grafter.slots

-- what a line says of a node
abbrev pub said_of : Grafter → DueNode → Option LineHead → List ℤ → Said
said_of grafter node head prices =
    said grafter.book.job (store_in grafter) (best_cost grafter.book) node.area head prices

-- the events that it comes to, with those of the lines after it
abbrev pub events_of : Grafter → DueNode → Said → List Bytes → List Event
events_of grafter node answer lines = said_events (node_events grafter.book.job (best_cost grafter.book) lines)
    (store_in grafter) (length grafter.book.nodes) node grafter.due answer

-- a right `row` line of format 2 has filled its slot; or the line is no such line, and comes to the same events as
-- before
abbrev pub FillsSlot : Grafter → Grafter → Option LineHead → List ℤ → Bool → Type 0
FillsSlot old new head prices true = row_said old.book.job (store_in old) head prices ≡ Some (store_in new)
FillsSlot old new head prices false = (row_said old.book.job (store_in old) head prices ≡ None)
    × ((node : DueNode) (lines : List Bytes)
    → events_of new node (said_of new node head prices) lines ≡ events_of old node (said_of old node head prices) lines)

-- the events that are still to come where a node is Taken, or none is
abbrev pub left_events : Grafter → Option DueNode → List Bytes → List Event
left_events grafter None lines = []
left_events grafter (Some node) lines = node_events grafter.book.job (best_cost grafter.book) lines
    (store_in grafter) (length grafter.book.nodes) node grafter.due

-- the next node that is due, where there is one, was taken
abbrev pub TakesNext : Grafter → Grafter → Option DueNode → Type 0
TakesNext old new None = (old.due ≡ []) × (new.book ≡ old.book)
TakesNext old new (Some node) = (old.due ≡ node ∷ new.due) × Happens old.book (take_node node.number) new.book

-- what is still to come leads where the events of a line and of those after it led
abbrev pub Follows : Grafter → DueNode → Bytes → Grafter → Option DueNode → Type 0
Follows old node line new next = (lines : List Bytes) (end : BookState)
    → Leads new.book (left_events new next lines) end → Leads old.book (left_events old (Some node) (line ∷ lines)) end

-- the same of a line that says this of the node
abbrev pub FollowsSaid : Grafter → DueNode → Said → Grafter → Option DueNode → Type 0
FollowsSaid old node answer new next = (lines : List Bytes) (end : BookState)
    → Leads new.book (left_events new next lines) end → Leads old.book (events_of old node answer lines) end
