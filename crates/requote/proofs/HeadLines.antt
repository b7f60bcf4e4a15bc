-- The header of a text, and where its rows are.
use Rattle.std.proofs.Common.{◌≡◌, true, false, List, ◌∷◌, map, Option, Some, refl, ap, ◌∙◌}
use Rattle.std.specs.Option.{option_and_then}
use Rattle.std.specs.Prelude.{Vec}
use Rattle.std.specs.Global.{Global}
use Rattle.tqd_base.specs.World.{Bytes}
use Rattle.tqd_instance.specs.declared.job.Job.{Job}
use Rattle.bound_tree.specs.declared.line.LineHead.{LineHead}
use Rattle.bound_tree.specs.LineHead.{head_of}
use Rattle.bound_tree.specs.SlotTree.{no_rows}
use Rattle.tree_checker.specs.declared.slots.RowSlots.{RowSlots}
use Rattle.tree_checker.specs.declared.slots.SlotRow.{SlotRow}
use Rattle.tree_checker.specs.Verdict.{RowStore, in_leaves, in_slots}
use Rattle.tree_checker.specs.SlotRows.{are_used, given_row, store_of, Holds, SameRows}
use Rattle.requote.specs.Head.{store_by, plan_in, head_in}

pub store_unused : (job : Job) (kept : RowSlots) → are_used kept ≡ false → store_of job kept ≡ in_leaves
store_unused job kept unused = rw unused refl

pub store_used : (job : Job) (old new : RowSlots) → are_used new ≡ true → SameRows old new → Holds job old no_rows → store_of job new ≡ in_slots no_rows
store_used job old new used same none =
    rw used (ap in_slots (ap (λ (rows : Vec SlotRow Global). map (given_row job) rows.items) same.rows ∙ none))

-- a right header
pub head_after : (job : Job) (all rest : List Bytes) (header : Bytes) (head : LineHead) (store : RowStore) → all ≡ header ∷ rest → head_of header ≡ Some head
    → store_by (Some head) ≡ Some store → head_in job all ≡ plan_in job rest store
head_after job all rest header head store is read by =
    ap (head_in job) is
    ∙ (ap (λ (h : Option LineHead). option_and_then (plan_in job rest) (store_by h)) read
    ∙ ap (option_and_then (plan_in job rest)) by)
