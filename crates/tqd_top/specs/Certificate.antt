-- A least purchase, and the text of a tree that certifies the answer to a job.
use Rattle.std.specs.Prelude.{ℕ, ◌≡◌, Option, None, Some}
use Rattle.std.specs.Option.{option_map}
use Rattle.tqd_base.specs.World.{Bytes}
use Rattle.tqd_instance.specs.declared.job.Job.{Job}
use Rattle.tqd_instance.specs.declared.plan.Plan.{Plan}
use Rattle.tqd_instance.specs.Plan.{units, IsSizedFor}
use Rattle.tqd_instance.specs.Purchase.{Purchase}
use Rattle.tqd_instance.specs.Cost.{cost}
use Rattle.tqd_instance.specs.Least.{Least}
use Rattle.interval_box.specs.declared.boxes.IntervalBox.{IntervalBox}
use Rattle.interval_box.specs.Ranges.{IsRoot}
use Rattle.bound_tree.specs.BoxTree.{BoxTree, IsValid}
use Rattle.bound_tree.specs.SlotTree.{items_of}
use Rattle.bound_tree.specs.SlotText.{slot_text}
use Rattle.bound_tree.specs.Shared.{shared}
use Rattle.search_book.specs.BookState.{BookState}
use Rattle.search_book.specs.Later.{IsLater}
use Rattle.search_book.specs.TreeOf.{IsTreeOf}
use Rattle.requote.specs.Graft.{IsGraft}

-- a plan of the job's size that is a least purchase, and costs this
pub record IsLeastPlan (job : Job) (plan : Plan) (amount : ℕ) : Type 0 where
  pub sized : IsSizedFor job plan
  pub least : Least job (units plan)
  pub costs : amount ≡ cost job (units plan)

-- a tree that is valid for the root of the job, against the cost of this purchase or without one
pub record Certifies (job : Job) (best : Option Purchase) (tree : BoxTree) : Type 0 where
  pub root : IntervalBox
  pub is_root : IsRoot job root
  pub valid : IsValid job (option_map (cost job) best) root tree

-- the text in which a purchase and a tree are written, with the rows of the tree in slots
abbrev pub certificate_text : Job → Option Purchase → BoxTree → Bytes
certificate_text job best tree = slot_text job best (items_of (shared job tree))

-- the tree of a state of a book that is later than the graft of an old text on the job: each split of the graft and
-- each leaf that it closed is in the tree
pub record IsRegrown (job : Job) (old : Bytes) (tree : BoxTree) : Type 0 where
  pub graft : BookState
  pub is_graft : IsGraft job old graft
  pub grown : BookState
  pub is_later : IsLater graft grown
  pub is_tree : IsTreeOf grown tree

-- the same where there is an old text; where there is none, any tree will do
abbrev pub GrowsFrom : Job → Option Bytes → BoxTree → Type 0
GrowsFrom job None tree = Unit {0}
GrowsFrom job (Some old) tree = IsRegrown job old tree

-- the text of such a tree with the purchase
pub record IsCertificate (job : Job) (from : Option Bytes) (best : Option Purchase) (text : Bytes) : Type 0 where
  pub tree : BoxTree
  pub certifies : Certifies job best tree
  pub grows : GrowsFrom job from tree
  pub text_is : text ≡ certificate_text job best tree
