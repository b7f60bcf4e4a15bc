-- What a text of a tree shows, by what it is the text of.
use Rattle.std.specs.Prelude.{ℕ, ◌≡◌, Option, None, Some, count_by, ◌==◌}
use Rattle.tqd_base.specs.World.{Bytes}
use Rattle.tqd_instance.specs.declared.job.Job.{Job}
use Rattle.tqd_instance.specs.Purchase.{Purchase}
use Rattle.tqd_instance.specs.Feasible.{Feasible}
use Rattle.tqd_instance.specs.Cost.{cost}
use Rattle.tqd_instance.specs.Least.{Least}
use Rattle.interval_box.specs.declared.boxes.IntervalBox.{IntervalBox}
use Rattle.interval_box.specs.Ranges.{IsRoot}
use Rattle.bound_tree.specs.BoxTree.{BoxTree, nodes_of, IsValid}
use Rattle.bound_tree.specs.TreeText.{tree_text}
use Rattle.bound_tree.specs.SlotTree.{SlotTree, items_of, IsSound, unfolded}
use Rattle.bound_tree.specs.SlotText.{slot_text}
use Rattle.tree_checker.specs.declared.rejection.Verdict.TheVariants.{Optimal, NoPurchase}
use Rattle.tree_checker.specs.Verdict.{verdict}

-- the text of a tree, with a purchase or without one: in format 1, or in format 2 that of a sound tree with slots which
-- unfolds to it
pub data IsTextOf (job : Job) (plan : Option Purchase) (tree : BoxTree) (text : Bytes) : Type 0 where
  with_rows : text ≡ tree_text job plan (nodes_of tree) → IsTextOf job plan tree text
  with_slots : (slot_tree : SlotTree) → IsSound job slot_tree → tree ≡ unfolded job slot_tree
      → text ≡ slot_text job plan (items_of slot_tree) → IsTextOf job plan tree text

-- the text of a purchase and a tree: the purchase is feasible and costs c, and the tree is valid for the root against c
pub record ShowsLeast (job : Job) (text : Bytes) (c : ℕ) : Type 0 where
  pub x : Purchase
  pub tree : BoxTree
  pub root : IntervalBox
  pub is_root : IsRoot job root
  pub text_is : IsTextOf job (Some x) tree text
  pub feasible : Feasible job x
  pub cost_is : c ≡ cost job x
  pub valid : IsValid job (Some c) root tree

-- the text of no purchase and a tree that is valid for the root without one
pub record ShowsNone (job : Job) (text : Bytes) : Type 0 where
  pub tree : BoxTree
  pub root : IntervalBox
  pub is_root : IsRoot job root
  pub text_is : IsTextOf job None tree text
  pub valid : IsValid job None root tree

-- the text is that of a least purchase, which costs c, and of a tree
pub record HasLeast (job : Job) (text : Bytes) (c : ℕ) : Type 0 where
  pub x : Purchase
  pub tree : BoxTree
  pub text_is : IsTextOf job (Some x) tree text
  pub least : Least job x
  pub cost_is : c ≡ cost job x

-- a text that is accepted
pub data IsAccepted (job : Job) (text : Bytes) : Type 0 where
  as_least : (c : ℕ) → verdict job text ≡ Optimal c → IsAccepted job text
  as_none : verdict job text ≡ NoPurchase → IsAccepted job text

-- how many line feeds (10) stand in a text
abbrev pub feeds : Bytes → ℕ
feeds text = count_by (λ byte. byte == 10) text
