-- What is due tells the phase that a text has come to.
use Rattle.std.proofs.Common.{ℕ, ℤ, ◌≡◌, Bool, true, false, List, [], ◌∷◌, Option, None, refl, ap, sym, ◌∙◌}
use Rattle.tqd_base.specs.World.{Bytes}
use Rattle.tqd_instance.specs.declared.job.Job.{Job}
use Rattle.tqd_instance.specs.declared.plan.Plan.{Plan}
use Rattle.tqd_instance.specs.Purchase.{Purchase}
use Rattle.interval_box.specs.declared.boxes.IntervalBox.{IntervalBox}
use Rattle.bound_tree.specs.declared.line.LineHead.{LineHead}
use Rattle.bound_tree.specs.LineHead.{prices_of}
use Rattle.tree_checker.specs.declared.rejection.Rejection.{Rejection}
use Rattle.tree_checker.specs.declared.buffer.LineBuffer.{LineBuffer}
use Rattle.tree_checker.specs.declared.due.Due.{Due}
use Rattle.tree_checker.specs.declared.due.Due.TheVariants.{Header, Plan as PlanLine, Buy, Node, Ended}
use Rattle.tree_checker.specs.declared.slots.RowSlots.{RowSlots}
use Rattle.bound_tree.specs.SlotTree.{no_rows}
use Rattle.tree_checker.specs.SlotRows.{Holds}
use Rattle.tree_checker.specs.Buffer.{Keeps}
use Rattle.tree_checker.specs.Verdict.{RowStore, in_leaves, in_slots, Phase, at_header, at_plan, at_buys, at_nodes, nothing_bought, is_whole}
use Rattle.tree_checker.specs.ByHead.{node_by_head}
use Rattle.tree_checker.specs.Judged.{HasUnits, AreRows, IsDue, is_whole_at}

pub header_due : (job : Job) (due : Due) (plan : Plan) (boxes : List IntervalBox) (kept : RowSlots) (phase : Phase) → due ≡ Header → IsDue job due plan boxes kept phase
    → (phase ≡ at_header) × HasUnits job plan nothing_bought × (kept.in_use ≡ false) × Holds job kept no_rows
header_due job due plan boxes kept at_header is h = (refl, h.1, h.2, h.3)
header_due job due plan boxes kept (at_plan store) is h = absurd (let other = sym is ∙ h.0 in cc)
header_due job due plan boxes kept (at_buys store p) is h = absurd (let other = sym is ∙ h.0 in cc)
header_due job due plan boxes kept (at_nodes store best areas) is h = absurd (let other = sym is ∙ h.0 in cc)

pub plan_due : (job : Job) (due : Due) (plan : Plan) (boxes : List IntervalBox) (kept : RowSlots) (phase : Phase) → due ≡ PlanLine → IsDue job due plan boxes kept phase
    → (store : RowStore) × (phase ≡ at_plan store) × HasUnits job plan nothing_bought × AreRows job kept store
plan_due job due plan boxes kept at_header is h = absurd (let other = sym is ∙ h.0 in cc)
plan_due job due plan boxes kept (at_plan store) is h = (store, refl, h.1, h.2)
plan_due job due plan boxes kept (at_buys store p) is h = absurd (let other = sym is ∙ h.0 in cc)
plan_due job due plan boxes kept (at_nodes store best areas) is h = absurd (let other = sym is ∙ h.0 in cc)

cost_in : Due → ℕ
cost_in (Buy cost left next) = cost
cost_in _ = 0

left_in : Due → ℕ
left_in (Buy cost left next) = left
left_in _ = 0

next_in : Due → ℕ
next_in (Buy cost left next) = next
next_in _ = 0

-- the purchase so far, and the phase that it is of
pub record IsBuying (job : Job) (plan : Plan) (kept : RowSlots) (cost left next : ℕ) (phase : Phase) : Type 0 where
  pub store : RowStore
  pub bought : Purchase
  pub is : phase ≡ at_buys store (record { cost = cost; left = left; next = next; bought = bought })
  pub units : HasUnits job plan bought
  pub rows : AreRows job kept store

pub buy_due : (job : Job) (due : Due) (plan : Plan) (boxes : List IntervalBox) (kept : RowSlots) (phase : Phase) (cost left next : ℕ) → due ≡ Buy cost left next
    → IsDue job due plan boxes kept phase → IsBuying job plan kept cost left next phase
unfolding cost_in left_in next_in
buy_due job due plan boxes kept at_header cost left next is h = absurd (let other = sym is ∙ h.0 in cc)
buy_due job due plan boxes kept (at_plan store) cost left next is h = absurd (let other = sym is ∙ h.0 in cc)
buy_due job due plan boxes kept (at_buys store p) cost left next is h =
    let same = sym h.0 ∙ is in
    record {
      store = store;
      bought = p.bought;
      is = λ j. at_buys store (record { cost = ap cost_in same j; left = ap left_in same j; next = ap next_in same j; bought = p.bought });
      units = h.1;
      rows = h.2;
    }
buy_due job due plan boxes kept (at_nodes store best areas) cost left next is h = absurd (let other = sym is ∙ h.0 in cc)

best_in : Due → Option ℕ
best_in (Node best) = best
best_in _ = None

pub node_due : (job : Job) (due : Due) (plan : Plan) (boxes : List IntervalBox) (kept : RowSlots) (phase : Phase) (best : Option ℕ) → due ≡ Node best
    → IsDue job due plan boxes kept phase → (store : RowStore) × (phase ≡ at_nodes store best boxes) × AreRows job kept store
unfolding best_in
node_due job due plan boxes kept at_header best is h = absurd (let other = sym is ∙ h.0 in cc)
node_due job due plan boxes kept (at_plan store) best is h = absurd (let other = sym is ∙ h.0 in cc)
node_due job due plan boxes kept (at_buys store p) best is h = absurd (let other = sym is ∙ h.0 in cc)
node_due job due plan boxes kept (at_nodes store b areas) best is h = (store, (λ j. at_nodes store (ap best_in (sym h.0 ∙ is) j) (sym h.1 j)), h.2)

pub not_ended : (job : Job) (due : Due) (plan : Plan) (boxes : List IntervalBox) (kept : RowSlots) (phase : Phase) (rejection : Rejection) → due ≡ Ended rejection
    → IsDue job due plan boxes kept phase → ⊥
not_ended job due plan boxes kept at_header rejection is h = let other = sym is ∙ h.0 in cc
not_ended job due plan boxes kept (at_plan store) rejection is h = let other = sym is ∙ h.0 in cc
not_ended job due plan boxes kept (at_buys store p) rejection is h = let other = sym is ∙ h.0 in cc
not_ended job due plan boxes kept (at_nodes store best areas) rejection is h = let other = sym is ∙ h.0 in cc

-- the prices of a line that is too long are not asked for
unread : (job : Job) (line : ℕ) (store : RowStore) (best : Option ℕ) (boxes : List IntervalBox) (head : Option LineHead) (a b : List ℤ) → head ≡ None
    → node_by_head job line store best boxes head a ≡ node_by_head job line store best boxes head b
unread job line store best [] head a b none = refl
unread job line in_leaves best (area ∷ due) head a b none = rw none refl
unread job line (in_slots slots) best (area ∷ due) head a b none = rw none refl

kept_prices : (job : Job) (line : ℕ) (store : RowStore) (best : Option ℕ) (boxes : List IntervalBox) (head : Option LineHead) (buffer : LineBuffer) (bytes : Bytes) (long : Bool)
    → buffer.is_long ≡ long → Keeps buffer bytes → (buffer.is_long ≡ true → head ≡ None)
    → node_by_head job line store best boxes head (prices_of buffer.bytes.items) ≡ node_by_head job line store best boxes head (prices_of bytes)
kept_prices job line store best boxes head buffer bytes true is keeps none = unread job line store best boxes head (prices_of buffer.bytes.items) (prices_of bytes) (none is)
kept_prices job line store best boxes head buffer bytes false is keeps none = ap (λ (b : Bytes). node_by_head job line store best boxes head (prices_of b)) (keeps.whole is)

pub same_prices : (job : Job) (line : ℕ) (store : RowStore) (best : Option ℕ) (boxes : List IntervalBox) (head : Option LineHead) (buffer : LineBuffer) (bytes : Bytes)
    → Keeps buffer bytes → (buffer.is_long ≡ true → head ≡ None)
    → node_by_head job line store best boxes head (prices_of buffer.bytes.items) ≡ node_by_head job line store best boxes head (prices_of bytes)
same_prices job line store best boxes head buffer bytes keeps none = kept_prices job line store best boxes head buffer bytes buffer.is_long refl keeps none

node_test : (store : RowStore) (due : Due) (best : Option ℕ) (boxes areas : List IntervalBox) → due ≡ Node best → boxes ≡ areas → is_whole (at_nodes store best areas) ≡ is_whole_at due boxes
node_test store due best boxes [] is same = rw (is, same) refl
node_test store due best boxes (area ∷ below) is same = rw (is, same) refl

-- a tree is whole in a phase where it is so by what is kept
pub same_whole : (job : Job) (due : Due) (plan : Plan) (boxes : List IntervalBox) (kept : RowSlots) (phase : Phase) → IsDue job due plan boxes kept phase → is_whole phase ≡ is_whole_at due boxes
same_whole job due plan boxes kept at_header h = rw h.0 refl
same_whole job due plan boxes kept (at_plan store) h = rw h.0 refl
same_whole job due plan boxes kept (at_buys store p) h = rw h.0 refl
same_whole job due plan boxes kept (at_nodes store best areas) h = node_test store due best boxes areas h.0 h.1
