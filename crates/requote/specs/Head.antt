-- What the first lines of an old text give: the header, which names the format, and the lines of the plan. Neither what
-- the plan is said to cost nor whether it is feasible has a part in it.
use Rattle.std.specs.Prelude.{ℕ, zero, suc, ◌+◌, ◌*◌, nat_le, if◌then◌else◌, List, [], ◌∷◌, Option, None, Some}
use Rattle.std.specs.Option.{option_and_then}
use Rattle.tqd_base.specs.World.{Bytes}
use Rattle.tqd_instance.specs.declared.job.Job.{Job}
use Rattle.tqd_instance.specs.Job.{goods, suppliers}
use Rattle.tqd_instance.specs.Purchase.{Purchase}
use Rattle.bound_tree.specs.declared.line.LineHead.{LineHead}
use Rattle.bound_tree.specs.declared.line.LineHead.TheVariants.{Header, Header2, NoPlan, Plan, Buy}
use Rattle.bound_tree.specs.LineHead.{head_of}
use Rattle.bound_tree.specs.SlotTree.{no_rows}
use Rattle.tree_checker.specs.Verdict.{RowStore, in_leaves, in_slots, place, nothing_bought, with_units, is_next}

-- where the rows of the leaves are, what the plan buys, where there is one, and the lines after those of the plan
pub record OldHead : Type 0 where
  pub store : RowStore
  pub bought : Option Purchase
  pub lines : List Bytes

-- what is bought so far, and the least place that the next `buy` line may have
pub record Buying : Type 0 where
  pub next : ℕ
  pub bought : Purchase

-- the header is that of a format
abbrev pub store_by : Option LineHead → Option RowStore
store_by (Some Header) = Some in_leaves
store_by (Some Header2) = Some (in_slots no_rows)
store_by _ = None

-- a `buy` line whose numbers are in range and that stands behind the one before it
abbrev pub after_buy : Job → Buying → Option LineHead → Option Buying
after_buy job buying (Some (Buy i k n)) = if is_next job buying.next i k n
    then Some (record { next = place job i k + 1; bought = with_units buying.bought i k n })
    else None
after_buy job buying _ = None

-- so many `buy` lines are due
unfoldable pub after_buys : Job → RowStore → ℕ → Buying → List Bytes → Option OldHead
after_buys job store zero buying lines = Some (record { store = store; bought = Some buying.bought; lines = lines })
after_buys job store (suc left) buying [] = None
after_buys job store (suc left) buying (line ∷ lines) =
    option_and_then (λ more. after_buys job store left more lines) (after_buy job buying (head_of line))

abbrev pub no_buys : Buying
no_buys = record { next = 0; bought = nothing_bought }

abbrev pub after_plan : Job → RowStore → List Bytes → Option LineHead → Option OldHead
after_plan job store lines (Some NoPlan) = Some (record { store = store; bought = None; lines = lines })
after_plan job store lines (Some (Plan cost count)) = if nat_le count (suppliers job * goods job)
    then after_buys job store count no_buys lines
    else None
after_plan job store lines _ = None

-- the line of the plan is due
abbrev pub plan_in : Job → List Bytes → RowStore → Option OldHead
plan_in job [] store = None
plan_in job (line ∷ lines) store = after_plan job store lines (head_of line)

-- the head of a text with these lines, where the header, the line of the plan and the `buy` lines are right
abbrev pub head_in : Job → List Bytes → Option OldHead
head_in job [] = None
head_in job (header ∷ lines) = option_and_then (plan_in job lines) (store_by (head_of header))
