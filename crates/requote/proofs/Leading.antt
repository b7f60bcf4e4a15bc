-- What the events of a line lead to.
use Rattle.std.proofs.Common.{◌≡◌, ℕ, ◌+◌, true, List, [], ◌∷◌, length, Option, None, Some, refl, sym, ◌∙◌, ap, subst}
use Rattle.tqd_base.specs.World.{Bytes}
use Rattle.tqd_instance.specs.declared.job.Job.{Job}
use Rattle.interval_box.specs.Halves.{low_half, high_half}
use Rattle.bound_tree.specs.Root.{root_of}
use Rattle.bound_tree.specs.LineHead.{head_of, prices_of}
use Rattle.search_book.specs.declared.node.Phase.{Phase}
use Rattle.search_book.specs.declared.node.Phase.TheVariants.{Taken}
use Rattle.search_book.specs.BookState.{BookState, best_cost}
use Rattle.search_book.specs.Events.{Event, take_node, split_node, give_back, marked, Happens}
use Rattle.search_book.specs.Runs.{Leads}
use Rattle.search_book.proofs.Marks.{marked_length}
use Rattle.search_book.proofs.Covers.{is_divided}
use Rattle.tree_checker.specs.Verdict.{RowStore}
use Rattle.requote.specs.declared.graft.DueNode.{DueNode}
use Rattle.requote.specs.declared.said.Said.TheVariants.{Splits}
use Rattle.requote.specs.Said.{said, row_said}
use Rattle.requote.specs.Graft.{next_events, said_events, line_events, node_events, tree_events}

pub leads_none : (s : BookState) → Leads s [] s
leads_none s = ([], record { events_are = refl; runs = refl })

-- an event that applies, and what comes after it
pub leads_more : (s u t : BookState) (event : Event) (events : List Event) → Happens s event u → Leads u events t → Leads s (event ∷ events) t
leads_more s u t event events h l = (
  (event, true) ∷ l.0,
  record { events_are = ap (λ (es : List Event). event ∷ es) l.1.events_are; runs = (u, h, l.1.runs) },
)

-- a state of the same job with as good a plan and as many nodes
pub record IsLike (s u : BookState) : Type 0 where
  pub job : u.job ≡ s.job
  pub best : best_cost u ≡ best_cost s
  pub count : length u.nodes ≡ length s.nodes

pub marked_like : (s u : BookState) (n : ℕ) (phase : Phase) → u ≡ marked s n phase → IsLike s u
marked_like s u n phase e = record {
  job = ap (λ (x : BookState). x.job) e;
  best = ap best_cost e;
  count = ap (λ (x : BookState). length x.nodes) e ∙ marked_length s.nodes n phase;
}

-- the events of the lines that are left, from a state
abbrev pub rest_of : BookState → RowStore → List Bytes → DueNode → List DueNode → List Event
rest_of s store lines = node_events s.job (best_cost s) lines store (length s.nodes)

rest_like : (s u : BookState) (store filled : RowStore) (lines : List Bytes) → IsLike s u → filled ≡ store → rest_of u filled lines ≡ rest_of s store lines
rest_like s u store filled lines like same =
    ap (λ (j : Job). node_events j (best_cost u) lines filled (length u.nodes)) like.job
    ∙ (ap (λ (b : Option ℕ). node_events s.job b lines filled (length u.nodes)) like.best
    ∙ (ap (λ (n : ℕ). node_events s.job (best_cost s) lines filled n) like.count
    ∙ ap (λ (r : RowStore). node_events s.job (best_cost s) lines r (length s.nodes)) same))

-- the events that are left where a node is Taken, or none is
abbrev pub left_of : BookState → RowStore → List DueNode → Option DueNode → List Bytes → List Event
left_of s store due None lines = []
left_of s store due (Some node) lines = rest_of s store lines node due

-- the next node that is due, where there is one, was taken
abbrev pub NextTaken : BookState → List DueNode → BookState → List DueNode → Option DueNode → Type 0
NextTaken s due t later None = (due ≡ []) × (t ≡ s)
NextTaken s due t later (Some node) = (due ≡ node ∷ later) × Happens s (take_node node.number) t

pub next_leads : (s u t : BookState) (store filled : RowStore) (due later : List DueNode) (next : Option DueNode) (lines : List Bytes) → NextTaken s due u later next → filled ≡ store
    → Leads u (left_of u filled later next lines) t → Leads s (next_events (rest_of s store lines) due) t
next_leads s u t store filled due later None lines takes same l =
    subst (λ (nodes : List DueNode). Leads s (next_events (rest_of s store lines) nodes) t) (sym takes.0) (subst (λ (v : BookState). Leads v [] t) takes.1 l)
next_leads s u t store filled due later (Some node) lines takes same l =
    let like = marked_like s u node.number Taken takes.1.1 in
    subst (λ (nodes : List DueNode). Leads s (next_events (rest_of s store lines) nodes) t) (sym takes.0)
    (leads_more s u t (take_node node.number) (rest_of s store lines node later) takes.1
    (subst (λ (rest : DueNode → List DueNode → List Event). Leads u (rest node later) t) (rest_like s u store filled lines like same) l))

-- a node was closed or given back, and the next one taken
pub after_leaf : (s u v t : BookState) (store filled : RowStore) (event : Event) (due later : List DueNode) (next : Option DueNode) (lines : List Bytes)
    → Happens s event u → IsLike s u → NextTaken u due v later next → filled ≡ store → Leads v (left_of v filled later next lines) t
    → Leads s (event ∷ next_events (rest_of s store lines) due) t
after_leaf s u v t store filled event due later next lines h like takes same l =
    leads_more s u t event (next_events (rest_of s store lines) due) h
    (subst (λ (rest : DueNode → List DueNode → List Event). Leads u (next_events rest due) t) (rest_like s u store store lines like refl)
    (next_leads u v t store filled due later next lines takes same l))

-- a node was split, and its low half is worked on
pub after_split : (s u t : BookState) (store filled : RowStore) (node low high : DueNode) (i at : ℕ) (due : List DueNode) (lines : List Bytes)
    → Happens s (split_node node.number i at true) u
    → low ≡ record { number = length s.nodes; area = low_half node.area i at }
    → high ≡ record { number = length s.nodes + 1; area = high_half node.area i at }
    → filled ≡ store → Leads u (rest_of u filled lines low (high ∷ due)) t
    → Leads s (said_events (node_events s.job (best_cost s) lines) store (length s.nodes) node due (Splits i at)) t
after_split s u t store filled node low high i at due lines h is_low is_high same l =
    let job : u.job ≡ s.job = ap (λ (x : BookState). x.job) h.2 in
    let best : best_cost u ≡ best_cost s = ap best_cost h.2 in
    let count : length u.nodes ≡ length s.nodes + 2 = ap (λ (x : BookState). length x.nodes) h.2 ∙ (is_divided s node.number i at true h.0.known).len in
    let a : DueNode = record { number = length s.nodes; area = low_half node.area i at } in
    let b : DueNode = record { number = length s.nodes + 1; area = high_half node.area i at } in
    let events = ap (λ (j : Job). node_events j (best_cost u) lines filled (length u.nodes) low (high ∷ due)) job
    ∙ (ap (λ (c : Option ℕ). node_events s.job c lines filled (length u.nodes) low (high ∷ due)) best
    ∙ (ap (λ (r : RowStore). node_events s.job (best_cost s) lines r (length u.nodes) low (high ∷ due)) same
    ∙ (ap (λ (n : ℕ). node_events s.job (best_cost s) lines store n low (high ∷ due)) count
    ∙ (ap (λ (x : DueNode). node_events s.job (best_cost s) lines store (length s.nodes + 2) x (high ∷ due)) is_low
    ∙ ap (λ (x : DueNode). node_events s.job (best_cost s) lines store (length s.nodes + 2) a (x ∷ due)) is_high)))) in
    leads_more s u t (split_node node.number i at true) (node_events s.job (best_cost s) lines store (length s.nodes + 2) a (b ∷ due)) h
    (subst (λ (es : List Event). Leads u es t) events l)

-- a node was given back, and nothing else comes
pub after_last : (s u t : BookState) (n : ℕ) → Happens s (give_back n) u → Leads u [] t → Leads s (give_back n ∷ []) t
after_last s u t n h l = leads_more s u t (give_back n) [] h l

-- the events where a line is left, and where none is
pub line_is : (job : Job) (best : Option ℕ) (line : Bytes) (lines : List Bytes) (store : RowStore) (count : ℕ) (node : DueNode) (due : List DueNode)
    → node_events job best (line ∷ lines) store count node due
    ≡ line_events (node_events job best lines) store count node due (row_said job store (head_of line) (prices_of line)) (said job store best node.area (head_of line) (prices_of line))
unfolding node_events
line_is job best line lines store count node due = refl

pub end_is : (job : Job) (best : Option ℕ) (store : RowStore) (count : ℕ) (node : DueNode) (due : List DueNode)
    → node_events job best [] store count node due ≡ give_back node.number ∷ []
unfolding node_events
end_is job best store count node due = refl

-- the root was taken
pub after_root : (s u t : BookState) (store filled : RowStore) (node : DueNode) (due : List DueNode) (lines : List Bytes) → length s.nodes ≡ 1 → Happens s (take_node 0) u
    → node ≡ record { number = 0; area = root_of s.job } → due ≡ [] → filled ≡ store → Leads u (rest_of u filled lines node due) t
    → Leads s (tree_events s.job (best_cost s) store lines) t
after_root s u t store filled node due lines one h is none same l =
    let root : DueNode = record { number = 0; area = root_of s.job } in
    let like = marked_like s u 0 Taken h.1 in
    let events = ap (λ (rest : DueNode → List DueNode → List Event). rest node due) (rest_like s u store filled lines like same)
    ∙ (ap (λ (n : ℕ). node_events s.job (best_cost s) lines store n node due) one
    ∙ (ap (λ (x : DueNode). node_events s.job (best_cost s) lines store 1 x due) is
    ∙ ap (node_events s.job (best_cost s) lines store 1 root) none)) in
    leads_more s u t (take_node 0) (node_events s.job (best_cost s) lines store 1 root []) h (subst (λ (es : List Event). Leads u es t) events l)
