-- What the answers of a book's calls say of the state s before and t after.
use Rattle.std.specs.Prelude.{ℕ, ◌≡◌, ◌≢◌, ◌<◌, ◌≤◌, pos, ◌<ℤ◌, Option, None, Some, IfSome, MatchOption, length}
use Rattle.tqd_instance.specs.declared.job.Job.{Job}
use Rattle.tqd_instance.specs.declared.plan.Plan.{Plan}
use Rattle.tqd_instance.specs.Plan.{units}
use Rattle.tqd_instance.specs.Cost.{cost}
use Rattle.tqd_instance.specs.Least.{Least, HasNoPurchase}
use Rattle.interval_box.specs.declared.boxes.IntervalBox.{IntervalBox}
use Rattle.bound_tree.specs.declared.leaf.Leaf.{Leaf}
use Rattle.bound_tree.specs.declared.leaf.Leaf.TheVariants.{Bound, Empty, Winners}
use Rattle.bound_tree.specs.Prices.{Fits}
use Rattle.bound_tree.specs.Value.{value}
use Rattle.bound_tree.specs.Kills.{Kills}
use Rattle.search_book.specs.declared.node.Phase.{Phase}
use Rattle.search_book.specs.declared.node.Phase.TheVariants.{Open, Taken, Split, Closed}
use Rattle.search_book.specs.declared.answers.State.{State}
use Rattle.search_book.specs.declared.answers.State.TheVariants.{Open as IsOpen, Taken as IsTaken, Split as IsSplit, Closed as IsClosed}
use Rattle.search_book.specs.declared.answers.Take.{Take}
use Rattle.search_book.specs.declared.answers.Take.TheVariants.{Got, NotOpen}
use Rattle.search_book.specs.declared.answers.Improve.{Improve}
use Rattle.search_book.specs.declared.answers.Improve.TheVariants.{Better, Kept}
use Rattle.search_book.specs.declared.answers.Close.{Close}
use Rattle.search_book.specs.declared.answers.Close.TheVariants.{Closed as IsNowClosed, Short}
use Rattle.search_book.specs.declared.answers.BookVerdict.{BookVerdict}
use Rattle.search_book.specs.declared.answers.BookVerdict.TheVariants.{Least as LeastCost, NoPurchase}
use Rattle.search_book.specs.Nodes.{area_of, phase_of, HasPhase, IsWaiting}
use Rattle.search_book.specs.BookState.{BookState, best_cost}
use Rattle.search_book.specs.Events.{Happens, take_node, improve, close_node}

-- the state of a node of which this became
abbrev pub state_of : Phase → State
state_of Open = IsOpen
state_of Taken = IsTaken
state_of (Split low high i at) = IsSplit low high
state_of (Closed leaf) = IsClosed

-- a node was taken, or it is not Open
abbrev pub TakeSays : BookState → ℕ → BookState → Take → Type 0
TakeSays s n t (Got area) = (area ≡ area_of s.nodes n) × Happens s (take_node n) t
TakeSays s n t (NotOpen state) = (state ≡ state_of (phase_of s.nodes n)) × (state ≢ IsOpen) × (t ≡ s)

-- a node is Taken, and has this box
pub record IsTakenAt (s : BookState) (n : ℕ) (area : IntervalBox) : Type 0 where
  pub taken : HasPhase s.nodes n Taken
  pub area_is : area_of s.nodes n ≡ area

-- what holds of the box of a node that was taken
abbrev pub IfGot : Take → (IntervalBox → Type 0) → Type 0
IfGot (Got area) holds = holds area
IfGot (NotOpen state) holds = Unit {0}

-- no node is Open
abbrev pub NoneOpen : BookState → Type 0
NoneOpen s = (n : ℕ) → n < length s.nodes → phase_of s.nodes n ≢ Open

-- the open node of the least number was taken
pub record TakesFirst (s : BookState) (n : ℕ) (area : IntervalBox) (t : BookState) : Type 0 where
  pub first : (k : ℕ) → k < n → phase_of s.nodes k ≢ Open
  pub area_is : area ≡ area_of s.nodes n
  pub happens : Happens s (take_node n) t

-- the plan is now the best one, or a best plan costs no more
abbrev pub ImproveSays : BookState → Plan → ℕ → BookState → Improve → Type 0
ImproveSays s plan amount t Better = Happens s (improve plan amount) t
ImproveSays s plan amount t (Kept best) = (best_cost s ≡ Some best) × (best ≤ amount) × (t ≡ s)

-- a leaf that may be offered for a box: a bound with a row that fits, or one that kills without a plan
abbrev pub CanClose : Job → IntervalBox → Leaf → Type 0
CanClose job area (Bound row) = Fits job area row
CanClose job area (Empty row) = Kills job area None (Empty row)
CanClose job area Winners = Kills job area None Winners

-- a bound without a plan, or below the cost of the best one
abbrev pub IsShort : Job → IntervalBox → Option ℕ → Leaf → Type 0
IsShort job area best (Bound row) = IfSome best (λ amount. value job area row <ℤ pos amount)
IsShort job area best (Empty row) = ⊥
IsShort job area best Winners = ⊥

-- the leaf closed the node, or it is short
abbrev pub CloseSays : BookState → ℕ → Leaf → BookState → Close → Type 0
CloseSays s n leaf t IsNowClosed = Happens s (close_node n leaf) t
CloseSays s n leaf t (Short best) = (best ≡ best_cost s) × IsShort s.job (area_of s.nodes n) best leaf × (t ≡ s)

-- no node is Open or Taken
abbrev pub IsSettled : BookState → Type 0
IsSettled s = (n : ℕ) → n < length s.nodes → IsWaiting (phase_of s.nodes n) → ⊥

-- a node is Open or Taken
abbrev pub IsUnsettled : BookState → Type 0
IsUnsettled s = (n : ℕ) × (n < length s.nodes) × IsWaiting (phase_of s.nodes n)

-- the best plan is a least purchase and costs so much
pub record HasLeast (s : BookState) (amount : ℕ) : Type 0 where
  pub plan : Plan
  pub best : s.best ≡ Some (plan, amount)
  pub costs : amount ≡ cost s.job (units plan)
  pub least : Least s.job (units plan)

abbrev pub VerdictSays : BookState → BookVerdict → Type 0
VerdictSays s (LeastCost amount) = HasLeast s amount
VerdictSays s NoPurchase = (s.best ≡ None) × HasNoPurchase s.job

-- what a covered state shows once no node is Open or Taken
abbrev pub Decides : BookState → Type 0
Decides s = MatchOption s.best
    (HasNoPurchase s.job)
    (λ best. Least s.job (units best.0) × (best.1 ≡ cost s.job (units best.0)))
