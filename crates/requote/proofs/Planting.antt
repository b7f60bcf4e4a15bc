-- From the opening of a book to the graft of a text.
use Rattle.std.proofs.Common.{◌≡◌, ◌<◌, List, length, Option, None, Some, refl, sym, ap, subst, ◌∙◌, arith}
use Rattle.tqd_base.specs.World.{Bytes}
use Rattle.tqd_instance.specs.declared.job.Job.{Job}
use Rattle.tqd_instance.specs.declared.plan.Plan.{Plan}
use Rattle.tqd_instance.specs.Purchase.{Purchase}
use Rattle.bound_tree.specs.Root.{root_of}
use Rattle.bound_tree.proofs.Roots.{root_is_value}
use Rattle.search_book.specs.declared.node.Node.{Node}
use Rattle.search_book.specs.declared.node.Phase.TheVariants.{Open}
use Rattle.search_book.specs.Nodes.{area_of, phase_of, HasPhase}
use Rattle.search_book.specs.BookState.{BookState, best_cost, IsOpening}
use Rattle.search_book.specs.Events.{Event}
use Rattle.search_book.specs.Runs.{Leads}
use Rattle.search_book.proofs.ManyEvents.{run_later}
use Rattle.tree_checker.specs.declared.slots.RowSlots.{RowSlots}
use Rattle.tree_checker.specs.Verdict.{RowStore}
use Rattle.tree_checker.specs.SlotRows.{store_of}
use Rattle.requote.specs.declared.head.Head.{Head}
use Rattle.requote.specs.declared.head.Head.TheVariants.{Wrong, NoPlan, Plan as PlanHead}
use Rattle.requote.specs.Lines.{lines_of}
use Rattle.requote.specs.Head.{OldHead, head_in}
use Rattle.requote.specs.Graft.{IsPlanOf, Offers, Grafts, IsGraft, tree_events}
use Rattle.requote.specs.Reading.{IsAtRoot, ReadsHead}

-- the opening state has one node, the root
pub opens_at_root : (job : Job) (s : BookState) → IsOpening job s → IsAtRoot s
opens_at_root job s o = record {
  count = ap (λ (nodes : List Node). length nodes) o.nodes;
  is_open = record {
    known = subst (λ (nodes : List Node). 0 < length nodes) (sym o.nodes) (omega arith);
    is = ap (λ (nodes : List Node). phase_of nodes 0) o.nodes;
  };
  area = ap (λ (nodes : List Node). area_of nodes 0) o.nodes ∙ (root_is_value job o.root o.is_root ∙ ap root_of (sym o.job_is));
}

pub still_at_root : (s u : BookState) → u.nodes ≡ s.nodes → u.job ≡ s.job → IsAtRoot s → IsAtRoot u
still_at_root s u nodes job r = record {
  count = ap (λ (ns : List Node). length ns) nodes ∙ r.count;
  is_open = subst (λ (ns : List Node). HasPhase ns 0 Open) (sym nodes) r.is_open;
  area = ap (λ (ns : List Node). area_of ns 0) nodes ∙ (r.area ∙ ap root_of (sym job));
}

-- events lead to a book of the same job
pub leads_job : (s t : BookState) (events : List Event) → Leads s events t → t.job ≡ s.job
leads_job s t events l = (run_later s t l.0 l.1.runs).job

graft_by : (job : Job) (old : Bytes) (lines : List Bytes) (s t : BookState) (head : Option OldHead) → IsOpening job s → lines ≡ lines_of old → head_in job lines ≡ head
    → Grafts job s head t → IsGraft job old t
graft_by job old lines s t head opens are is grafts = record {
  opening = s;
  opens = opens;
  grafts = subst (λ (h : Option OldHead). Grafts job s h t) (sym is ∙ ap (head_in job) are) grafts;
}

-- a text without a head
pub graft_wrong : (job : Job) (old : Bytes) (lines left : List Bytes) (s : BookState) (store : RowStore) (head : Head) → IsOpening job s → lines ≡ lines_of old
    → ReadsHead job store left (head_in job lines) head → head ≡ Wrong → IsGraft job old s
graft_wrong job old lines left s store head opens are reads is =
    graft_by job old lines s s None opens are (subst (ReadsHead job store left (head_in job lines)) is reads) refl

-- events that are those of the job
job_events : (job : Job) (slots : RowSlots) (left : List Bytes) (u t : BookState) → u.job ≡ job
    → Leads u (tree_events u.job (best_cost u) (store_of u.job slots) left) t → Leads u (tree_events job (best_cost u) (store_of job slots) left) t
job_events job slots left u t same l = subst (λ (j : Job). Leads u (tree_events j (best_cost u) (store_of j slots) left) t) same l

-- a text without a plan
pub graft_no_plan : (job : Job) (old : Bytes) (lines left : List Bytes) (s t : BookState) (slots : RowSlots) (head : Head) → IsOpening job s → lines ≡ lines_of old
    → ReadsHead job (store_of job slots) left (head_in job lines) head → head ≡ NoPlan
    → Leads s (tree_events s.job (best_cost s) (store_of s.job slots) left) t → IsGraft job old t
graft_no_plan job old lines left s t slots head opens are reads is leads =
    graft_by job old lines s t (Some (record { store = store_of job slots; bought = None; lines = left })) opens are
    (subst (ReadsHead job (store_of job slots) left (head_in job lines)) is reads) (s, refl, job_events job slots left s t opens.job_is leads)

-- a text with a plan
pub graft_plan : (job : Job) (old : Bytes) (lines left : List Bytes) (s u t : BookState) (slots : RowSlots) (head : Head) (plan : Plan) → IsOpening job s → lines ≡ lines_of old
    → ReadsHead job (store_of job slots) left (head_in job lines) head → head ≡ PlanHead plan
    → ((x : Purchase) → IsPlanOf s.job x plan → Offers s.job s (Some x) u) → u.job ≡ s.job
    → Leads u (tree_events u.job (best_cost u) (store_of u.job slots) left) t → IsGraft job old t
graft_plan job old lines left s u t slots head plan opens are reads is offers same leads =
    let read = subst (ReadsHead job (store_of job slots) left (head_in job lines)) is reads in
    let offered = offers read.0 (subst (λ (j : Job). IsPlanOf j read.0 plan) (sym opens.job_is) read.1) in
    graft_by job old lines s t (Some (record { store = store_of job slots; bought = Some read.0; lines = left })) opens are read.2
    (u, subst (λ (j : Job). Offers j s (Some read.0) u) opens.job_is offered, job_events job slots left u t (same ∙ opens.job_is) leads)
