-- The state of a book of a job that the text of an old tree leads to.
use Rattle.std.specs.Prelude.{ℕ, ◌≡◌, ◌+◌, true, List, [], ◌∷◌, Option, None, Some}
use Rattle.tqd_base.specs.World.{Bytes}
use Rattle.tqd_instance.specs.declared.job.Job.{Job}
use Rattle.tqd_instance.specs.declared.plan.Plan.{Plan}
use Rattle.tqd_instance.specs.declared.standing.Standing.{Standing}
use Rattle.tqd_instance.specs.declared.standing.Standing.TheVariants.{Feasible}
use Rattle.tqd_instance.specs.Plan.{IsSizedFor}
use Rattle.tqd_instance.specs.Purchase.{Purchase}
use Rattle.interval_box.specs.Halves.{low_half, high_half}
use Rattle.bound_tree.specs.LineHead.{head_of, prices_of}
use Rattle.bound_tree.specs.Root.{root_of}
use Rattle.search_book.specs.BookState.{BookState, best_cost, IsOpening}
use Rattle.search_book.specs.Events.{Event, take_node, improve, close_node, split_node, give_back, Happens}
use Rattle.search_book.specs.Runs.{Leads}
use Rattle.tree_checker.specs.Standing.{standing_of}
use Rattle.tree_checker.specs.Verdict.{RowStore}
use Rattle.tree_checker.specs.Judged.{HasUnits}
use Rattle.requote.specs.declared.graft.DueNode.{DueNode}
use Rattle.requote.specs.declared.said.Said.{Said}
use Rattle.requote.specs.declared.said.Said.TheVariants.{Splits, Kills, FallsShort, Nothing}
use Rattle.requote.specs.Lines.{lines_of}
use Rattle.requote.specs.Head.{OldHead, head_in}
use Rattle.requote.specs.Said.{said, row_said}

-- the events of a node that is Taken: by the rows that were given, the number of nodes of the book, the node, and the
-- nodes that are due after it
abbrev pub Following : Type 0
Following = RowStore → ℕ → DueNode → List DueNode → List Event

-- the next node that is due is taken
abbrev pub next_events : (DueNode → List DueNode → List Event) → List DueNode → List Event
next_events rest [] = []
next_events rest (node ∷ due) = take_node node.number ∷ rest node due

-- by what a line says of a node: a split adds the nodes of the halves and goes on with the low one; after a leaf the
-- next node is due, whether the leaf kills or not; a line that says nothing ends the reading
abbrev pub said_events : Following → RowStore → ℕ → DueNode → List DueNode → Said → List Event
said_events rest store count node due (Splits i s) = split_node node.number i s true
    ∷ rest store (count + 2)
    (record { number = count; area = low_half node.area i s })
    (record { number = count + 1; area = high_half node.area i s } ∷ due)
said_events rest store count node due (Kills leaf) = close_node node.number leaf ∷ next_events (rest store count) due
said_events rest store count node due FallsShort = give_back node.number ∷ next_events (rest store count) due
said_events rest store count node due Nothing = give_back node.number ∷ []

-- after a right `row` line the same node is due; any other line is asked what it says of the node
abbrev pub line_events : Following → RowStore → ℕ → DueNode → List DueNode → Option RowStore → Said → List Event
line_events rest store count node due (Some filled) said = rest filled count node due
line_events rest store count node due None said = said_events rest store count node due said

-- by the lines that are left, which are read against the cost of the best plan; where there is none, the node is given
-- back
unfoldable pub node_events : Job → Option ℕ → List Bytes → RowStore → ℕ → DueNode → List DueNode → List Event
node_events job best [] store count node due = give_back node.number ∷ []
node_events job best (line ∷ lines) store count node due = line_events (node_events job best lines) store count node due
    (row_said job store (head_of line) (prices_of line))
    (said job store best node.area (head_of line) (prices_of line))

-- a plan of the job's size that buys this
pub record IsPlanOf (job : Job) (x : Purchase) (plan : Plan) : Type 0 where
  pub sized : IsSizedFor job plan
  pub units : HasUnits job plan x

-- the plan of the text is offered where it is feasible in the job, at what it costs there
abbrev pub OffersAt : Job → Purchase → BookState → BookState → Standing → Type 0
OffersAt job x s t (Feasible cost) = (plan : Plan) × IsPlanOf job x plan × Happens s (improve plan cost) t
OffersAt job x s t standing = t ≡ s

abbrev pub Offers : Job → BookState → Option Purchase → BookState → Type 0
Offers job s None t = t ≡ s
Offers job s (Some x) t = OffersAt job x s t (standing_of job x)

-- the node of the root is taken, and the tree is read from the lines after the plan
abbrev pub tree_events : Job → Option ℕ → RowStore → List Bytes → List Event
tree_events job best store lines =
    take_node 0 ∷ node_events job best lines store 1 (record { number = 0; area = root_of job }) []

-- where the text has no head, nothing happens
abbrev pub Grafts : Job → BookState → Option OldHead → BookState → Type 0
Grafts job s None t = t ≡ s
Grafts job s (Some head) t = (u : BookState) × Offers job s head.bought u
    × Leads u (tree_events job (best_cost u) head.store head.lines) t

-- the graft of a text on a job: from the opening state, by the lines of the text
pub record IsGraft (job : Job) (old : Bytes) (t : BookState) : Type 0 where
  pub opening : BookState
  pub opens : IsOpening job opening
  pub grafts : Grafts job opening (head_in job (lines_of old)) t
