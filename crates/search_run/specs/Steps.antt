-- What writing a thought about the box of node n into a book made of its state s: the state t.
use Rattle.std.specs.Prelude.{ℕ, ◌≡◌, ◌≢◌, ◌+◌, ◌*◌, ◌<◌, ◌≤◌, ◌⊎◌, ◌↔◌, length, Option, Some, None}
use Rattle.interval_box.specs.Ranges.{IsBoxOf}
use Rattle.search_book.specs.declared.node.Phase.TheVariants.{Open}
use Rattle.search_book.specs.Nodes.{HasPhase}
use Rattle.search_book.specs.BookState.{BookState}
use Rattle.search_book.specs.Counts.{due_size}
use Rattle.search_book.specs.Answers.{IsTakenAt}
use Rattle.search_book.specs.Taken.{IsTaken, TakenWithout}
use Rattle.search_run.specs.declared.thought.Task.{Task}
use Rattle.search_run.specs.declared.commit.Step.{Step}
use Rattle.search_run.specs.declared.commit.Step.TheVariants.{Closed, Goes, Split}
use Rattle.search_run.specs.Stages.{rank}

-- what is Taken is what was, with node m in the place of node n: the same node, or a new one
pub record Moves (s : BookState) (n m : ℕ) (t : BookState) : Type 0 where
  pub fresh : (m ≡ n) ⊎ (length s.nodes ≤ m)
  pub taken : (k : ℕ) → IsTaken t k ↔ ((IsTaken s k × (k ≢ n)) ⊎ (k ≡ m))

-- a node that is Taken, with its box, which is one of the job
pub record IsTaskIn (s : BookState) (task : Task) : Type 0 where
  pub taken : IsTakenAt s task.number task.area
  pub of_job : IsBoxOf s.job task.area

-- the work that a box may still bring: the size that is due, and the stages of the box
abbrev pub effort : BookState → Task → ℕ
effort s task = 8 * due_size s + rank task.stage

-- the box was closed
pub record HasClosed (s : BookState) (n : ℕ) (t : BookState) : Type 0 where
  pub due : due_size t < due_size s
  pub taken : TakenWithout s n t

-- the work on a box, or on a part of it, goes on
pub record GoesOn (s : BookState) (task next : Task) (t : BookState) : Type 0 where
  pub moves : Moves s task.number next.number t
  pub next_in : IsTaskIn t next
  pub effort : effort t next < effort s task

-- what is left of a box at the same stage, once ends were split off
pub record IsRestOf (s : BookState) (task : Task) (t : BookState) (rest : Task) : Type 0 where
  pub moves : Moves s task.number rest.number t
  pub rest_in : IsTaskIn t rest
  pub due : due_size t ≤ due_size s
  pub stage : rest.stage ≡ task.stage

-- what a thought made of the box of a task: nothing is left of it, a box to go on with, or that and an Open node
abbrev pub Makes : BookState → Task → BookState → Step → Type 0
Makes s task t Closed = HasClosed s task.number t
Makes s task t (Goes next) = GoesOn s task next t
Makes s task t (Split half other) = GoesOn s task half t × HasPhase t.nodes other Open

-- what is left of the box of node n after some turns: nothing, or a box to go on with
pub record IsKeptOf (s : BookState) (n : ℕ) (t : BookState) (task : Task) : Type 0 where
  pub moves : Moves s n task.number t
  pub task_in : IsTaskIn t task
  pub due : due_size t ≤ due_size s

abbrev pub IsLeftOf : BookState → ℕ → BookState → Option Task → Type 0
IsLeftOf s n t None = HasClosed s n t
IsLeftOf s n t (Some task) = IsKeptOf s n t task

-- the work that is left with it
abbrev pub left_effort : BookState → Option Task → ℕ
left_effort s None = 0
left_effort s (Some task) = effort s task + 1

-- what a turn leaves to go on with
abbrev pub IsLeft : BookState → Task → BookState → Option Task → Type 0
IsLeft s task t None = HasClosed s task.number t
IsLeft s task t (Some next) = GoesOn s task next t
