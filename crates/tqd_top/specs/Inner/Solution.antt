-- What a search that is finished says.
use Rattle.std.specs.Prelude.{ℕ, ◌≡◌, Option, None, Some}
use Rattle.std.specs.Option.{option_map}
use Rattle.tqd_base.specs.World.{Bytes}
use Rattle.tqd_instance.specs.declared.job.Job.{Job}
use Rattle.tqd_instance.specs.declared.plan.Plan.{Plan}
use Rattle.tqd_instance.specs.Plan.{units}
use Rattle.tqd_instance.specs.Purchase.{Purchase}
use Rattle.tqd_instance.specs.Least.{HasNoPurchase}
use Rattle.bound_tree.specs.BoxTree.{BoxTree, nodes_of}
use Rattle.search_book.specs.declared.finish.Finished.{Finished}
use Rattle.search_book.specs.BookState.{BookState}
use Rattle.search_book.specs.TreeOf.{IsTreeOf}
use Rattle.tqd_top.specs.Certificate.{Certifies, GrowsFrom, IsLeastPlan, certificate_text}

-- a least plan with its cost, or that no purchase is feasible
abbrev pub IsSolution : Job → Option (Plan × ℕ) → Type 0
IsSolution job None = HasNoPurchase job
IsSolution job (Some best) = IsLeastPlan job best.0 best.1

-- the purchase that a plan with its cost writes down
abbrev pub bought_by : Option (Plan × ℕ) → Option Purchase
bought_by plan = option_map (λ best. units best.0) plan

-- a search that is finished: its nodes are those of a tree that certifies its solution
pub record IsFinished (job : Job) (done : Finished) : Type 0 where
  pub solution : IsSolution job done.plan
  pub tree : BoxTree
  pub certifies : Certifies job (bought_by done.plan) tree
  pub nodes_are : done.tree ≡ nodes_of tree

-- what a book in this state hands out: such a search, whose tree is that of the state
pub record IsFinishOf (s : BookState) (done : Finished) : Type 0 where
  pub finished : IsFinished s.job done
  pub is_tree : IsTreeOf s finished.tree

-- a search that is finished, and whose tree grew from an old text where there is one
pub record IsFinishedFrom (job : Job) (from : Option Bytes) (done : Finished) : Type 0 where
  pub finished : IsFinished job done
  pub grows : GrowsFrom job from finished.tree

-- the text that is saved of it
abbrev pub certificate_of : (job : Job) (done : Finished) → IsFinished job done → Bytes
certificate_of job done finished = certificate_text job (bought_by done.plan) finished.tree
