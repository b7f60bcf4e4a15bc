-- The `buy` lines of a plan, as they are read one after another.
use Rattle.std.proofs.Common.{◌≡◌, ◌+◌, ◌-◌, ◌<◌, ◌≤◌, ◌*◌, ℕ, suc, true, false, List, [], ◌∷◌, None, Some, refl, sym, ap, subst, ◌∙◌, arith, inl, inr}
use Rattle.std.specs.Prelude.{nat_le}
use Rattle.std.specs.Option.{option_and_then}
use Rattle.std.proofs.lemmas.Bool.Decides.{eqb_tells}
use Rattle.tqd_base.specs.World.{Bytes}
use Rattle.tqd_instance.specs.declared.job.Job.{Job}
use Rattle.tqd_instance.specs.declared.plan.Plan.{Plan}
use Rattle.tqd_instance.specs.Job.{goods, suppliers}
use Rattle.tqd_instance.specs.Plan.{units, plan_goods, IsSizedFor}
use Rattle.tqd_instance.specs.Purchase.{Purchase}
use Rattle.bound_tree.specs.declared.line.LineHead.{LineHead}
use Rattle.bound_tree.specs.declared.line.LineHead.TheVariants.{Header, Header2, NoPlan, Plan as PlanLine, Buy, Split, Row, Bound, Empty, Winners}
use Rattle.bound_tree.specs.LineHead.{head_of}
use Rattle.tree_checker.specs.Verdict.{RowStore, place, with_units, is_next}
use Rattle.tree_checker.specs.Judged.{HasUnits}
use Rattle.requote.specs.Head.{Buying, no_buys, after_buy, after_buys, plan_in}

-- a purchase with the units of one place
pub units_set : (job : Job) (before after : Plan) (x : Purchase) (i k n : ℕ) → IsSizedFor job before → units after i k ≡ n
    → ((a b : ℕ) → b < plan_goods before → (a ≡ i → b ≡ k → ⊥) → units after a b ≡ units before a b)
    → HasUnits job before x → HasUnits job after (with_units x i k n)
units_set job before after x i k n sized changed others has a b below = elim (eqb_tells a i) [
  | inl row ↦ elim (eqb_tells b k) [
    | inl column ↦ rw (row.0, column.0) (ap (λ (p : ℕ). units after p b) row.1 ∙ (ap (units after i) column.1 ∙ changed))
    | inr other ↦ rw (row.0, other.0) (others a b (subst (λ (m : ℕ). b < m) (sym sized.goods) below) (λ same also. other.1 also) ∙ has a b below)
  ]
  | inr other ↦ rw other.0 (others a b (subst (λ (m : ℕ). b < m) (sym sized.goods) below) (λ same also. other.1 same) ∙ has a b below)
]

-- no line is left
pub no_buy_left : (job : Job) (buying : Buying) (lines : List Bytes) → lines ≡ [] → (store : RowStore) (left : ℕ) → after_buys job store (suc left) buying lines ≡ None
unfolding after_buys
no_buy_left job buying lines none store left = ap (after_buys job store (suc left) buying) none

-- the next line is no right `buy` line
pub wrong_buy : (job : Job) (buying : Buying) (all : List Bytes) (line : Bytes) (rest : List Bytes) → all ≡ line ∷ rest → after_buy job buying (head_of line) ≡ None
    → (store : RowStore) (left : ℕ) → after_buys job store (suc left) buying all ≡ None
unfolding after_buys
wrong_buy job buying all line rest is wrong store left =
    ap (after_buys job store (suc left) buying) is ∙ ap (option_and_then (λ (more : Buying). after_buys job store left more rest)) wrong

-- it is one
pub right_buy : (job : Job) (buying more : Buying) (all : List Bytes) (line : Bytes) (rest : List Bytes) → all ≡ line ∷ rest → after_buy job buying (head_of line) ≡ Some more
    → (store : RowStore) (left : ℕ) → after_buys job store (suc left) buying all ≡ after_buys job store left more rest
unfolding after_buys
right_buy job buying more all line rest is right store left =
    ap (after_buys job store (suc left) buying) is ∙ ap (option_and_then (λ (more : Buying). after_buys job store left more rest)) right

pub other_line : (job : Job) (buying : Buying) (head : LineHead) → ((i k n : ℕ) → head ≡ Buy i k n → ⊥) → after_buy job buying (Some head) ≡ None
other_line job buying Header other = refl
other_line job buying Header2 other = refl
other_line job buying NoPlan other = refl
other_line job buying (PlanLine cost count) other = refl
other_line job buying (Buy i k n) other = absurd (other i k n refl)
other_line job buying (Split i s) other = refl
other_line job buying (Row n count) other = refl
other_line job buying (Bound count) other = refl
other_line job buying (Empty count) other = refl
other_line job buying Winners other = refl

pub buy_out_of_place : (job : Job) (buying : Buying) (i k n : ℕ) → is_next job buying.next i k n ≡ false → after_buy job buying (Some (Buy i k n)) ≡ None
buy_out_of_place job buying i k n wrong = rw wrong refl

pub buy_in_place : (job : Job) (next i k n at : ℕ) (x : Purchase) → is_next job next i k n ≡ true → at ≡ place job i k
    → after_buy job (record { next = next; bought = x }) (Some (Buy i k n)) ≡ Some (record { next = at + 1; bought = with_units x i k n })
buy_in_place job next i k n at x right is = rw (right, is) refl

-- what is left of a plan of so many lines, after some of them: a purchase that the plan has so far
pub record IsBuying (job : Job) (count : ℕ) (all : List Bytes) (done next : ℕ) (plan : Plan) (lines : List Bytes) : Type 0 where
  pub sized : IsSizedFor job plan
  pub bought : Purchase
  pub units : HasUnits job plan bought
  pub rest : (store : RowStore) → after_buys job store count no_buys all ≡ after_buys job store (count - done) (record { next = next; bought = bought }) lines

-- of the lines that are left, one is next
pub one_left : (job : Job) (count done : ℕ) (buying : Buying) (lines : List Bytes) (store : RowStore) → done < count
    → after_buys job store (count - done) buying lines ≡ after_buys job store (suc (count - (done + 1))) buying lines
one_left job count done buying lines store below = ap (λ (n : ℕ). after_buys job store n buying lines) (omega arith)

-- none is left
pub all_bought : (job : Job) (count done : ℕ) (buying : Buying) (lines : List Bytes) (store : RowStore) → count ≤ done
    → after_buys job store (count - done) buying lines ≡ Some (record { store = store; bought = Some buying.bought; lines = lines })
unfolding after_buys
all_bought job count done buying lines store past = ap (λ (n : ℕ). after_buys job store n buying lines) (let none : count - done ≡ 0 = omega arith in none)

-- the line of a plan with so many `buy` lines
pub plan_of_buys : (job : Job) (all rest : List Bytes) (line : Bytes) (cost count : ℕ) (store : RowStore) → all ≡ line ∷ rest → head_of line ≡ Some (PlanLine cost count)
    → nat_le count (suppliers job * goods job) ≡ true → plan_in job all store ≡ after_buys job store count no_buys rest
plan_of_buys job all rest line cost count store is head few = rw (is, head, few) refl
