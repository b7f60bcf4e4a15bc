-- What is to come after a line leads where its events and those of the lines after it led.
use Rattle.std.proofs.Common.{◌≡◌, true, false, List, ◌∷◌, length, Option, None, Some, refl, sym, ◌∙◌, ap, subst}
use Rattle.tqd_base.specs.World.{Bytes}
use Rattle.tqd_instance.specs.declared.job.Job.{Job}
use Rattle.bound_tree.specs.LineHead.{head_of, prices_of}
use Rattle.search_book.specs.BookState.{BookState, best_cost}
use Rattle.search_book.specs.Events.{Event, Happens}
use Rattle.search_book.specs.Runs.{Leads}
use Rattle.tree_checker.specs.declared.slots.RowSlots.{RowSlots}
use Rattle.tree_checker.specs.Verdict.{RowStore}
use Rattle.tree_checker.specs.SlotRows.{store_of}
use Rattle.requote.specs.declared.graft.DueNode.{DueNode}
use Rattle.requote.specs.declared.graft.Grafter.{Grafter}
use Rattle.requote.specs.declared.said.Said.{Said}
use Rattle.requote.specs.Graft.{next_events, said_events, line_events, node_events}
use Rattle.requote.specs.Reading.{store_in, said_of, events_of, FillsSlot, left_events, TakesNext, Follows, FollowsSaid}
use Rattle.requote.proofs.Leading.{IsLike, rest_of, left_of, NextTaken, line_is, after_leaf}

-- the line has filled a slot
pub filled_follows : (old new : Grafter) (node : DueNode) (line : Bytes) → new.book ≡ old.book → new.due ≡ old.due
    → FillsSlot old new (head_of line) (prices_of line) true → Follows old node line new (Some node)
filled_follows old new node line book due fills lines end leads =
    let s = old.book in
    let filled = store_in new in
    let here : node_events s.job (best_cost s) (line ∷ lines) (store_in old) (length s.nodes) node old.due ≡ rest_of s filled lines node old.due =
    line_is s.job (best_cost s) line lines (store_in old) (length s.nodes) node old.due
    ∙ ap (λ (o : Option RowStore). line_events (node_events s.job (best_cost s) lines) (store_in old) (length s.nodes) node old.due o (said_of old node (head_of line) (prices_of line))) fills in
    subst (λ (es : List Event). Leads s es end) (sym here)
    (subst (λ (due : List DueNode). Leads s (rest_of s filled lines node due) end) due
    (subst (λ (b : BookState). Leads b (rest_of b filled lines node new.due) end) book leads))

-- the events of what a line says, by the parts that they rest on
abbrev events_by : BookState → RowSlots → List DueNode → DueNode → Said → List Bytes → List Event
events_by s kept due node answer lines = said_events (node_events s.job (best_cost s) lines) (store_of s.job kept) (length s.nodes) node due answer

-- the line says this of the node, and has filled no slot
pub said_follows : (old first mid new : Grafter) (node : DueNode) (line : Bytes) (answer : Said) (next : Option DueNode)
    → first.book ≡ old.book → FillsSlot old first (head_of line) (prices_of line) false
    → mid.book ≡ first.book → mid.due ≡ first.due → mid.slots ≡ first.slots
    → answer ≡ said_of first node (head_of line) (prices_of line) → FollowsSaid mid node answer new next → Follows old node line new next
said_follows old first mid new node line answer next book fills again due slots says follows lines end leads =
    let s = old.book in
    let told = said_of old node (head_of line) (prices_of line) in
    let here : node_events s.job (best_cost s) (line ∷ lines) (store_in old) (length s.nodes) node old.due ≡ events_of old node told lines =
    line_is s.job (best_cost s) line lines (store_in old) (length s.nodes) node old.due
    ∙ ap (λ (o : Option RowStore). line_events (node_events s.job (best_cost s) lines) (store_in old) (length s.nodes) node old.due o told) fills.0 in
    let there : events_of mid node answer lines ≡ events_of old node told lines =
    ap (λ (b : BookState). events_by b mid.slots mid.due node answer lines) again
    ∙ (ap (λ (kept : RowSlots). events_by first.book kept mid.due node answer lines) slots
    ∙ (ap (λ (nodes : List DueNode). events_by first.book first.slots nodes node answer lines) due
    ∙ (ap (λ (a : Said). events_by first.book first.slots first.due node a lines) says
    ∙ fills.1 node lines))) in
    subst (λ (es : List Event). Leads s es end) (there ∙ sym here)
    (subst (λ (b : BookState). Leads b (events_of mid node answer lines) end) (again ∙ book) (follows lines end leads))

next_taken : (old new : Grafter) (due : List DueNode) (next : Option DueNode) → old.due ≡ due → TakesNext old new next → NextTaken old.book due new.book new.due next
next_taken old new due None is takes = (sym is ∙ takes.0, takes.1)
next_taken old new due (Some node) is takes = (sym is ∙ takes.0, takes.1)

next_job : (old new : Grafter) (next : Option DueNode) → TakesNext old new next → new.book.job ≡ old.book.job
next_job old new None takes = ap (λ (s : BookState). s.job) takes.1
next_job old new (Some node) takes = ap (λ (s : BookState). s.job) takes.1.1

left_is : (new : Grafter) (next : Option DueNode) (lines : List Bytes) → left_events new next lines ≡ left_of new.book (store_in new) new.due next lines
left_is new None lines = refl
left_is new (Some node) lines = refl

-- a leaf has closed the node or not, and the next one was taken
pub leaf_follows : (mid done new : Grafter) (node : DueNode) (event : Event) (next : Option DueNode)
    → Happens mid.book event done.book → IsLike mid.book done.book → done.due ≡ mid.due → done.slots ≡ mid.slots → TakesNext done new next → new.slots ≡ done.slots
    → (lines : List Bytes) (end : BookState) → Leads new.book (left_events new next lines) end
    → Leads mid.book (event ∷ next_events (rest_of mid.book (store_in mid) lines) mid.due) end
leaf_follows mid done new node event next happens like due slots takes same lines end leads =
    let job = next_job done new next takes ∙ like.job in
    let store : store_in new ≡ store_in mid = ap (λ (j : Job). store_of j new.slots) job ∙ ap (store_of mid.book.job) (same ∙ slots) in
    after_leaf mid.book done.book new.book end (store_in mid) (store_in new) event mid.due new.due next lines happens like
    (next_taken done new mid.due next due takes) store
    (subst (λ (es : List Event). Leads new.book es end) (left_is new next lines) leads)
