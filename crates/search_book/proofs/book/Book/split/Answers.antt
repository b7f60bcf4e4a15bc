use Rattle.std.proofs.Common.{List, sym, subst, ap, refl, ◌∙◌, ◌+◌, ◌≡◌, not, length, arith}
use Rattle.std.specs.Prelude.{if◌then◌else◌}
use Rattle.interval_box.specs.declared.boxes.IntervalBox.{IntervalBox}
use Rattle.interval_box.specs.Ranges.{IsBoxOf}
use Rattle.interval_box.specs.Halves.{IsProper, low_half, high_half}
use Rattle.search_book.specs.declared.node.Node.{Node}
use Rattle.search_book.specs.declared.node.Phase.TheVariants.{Taken, Split}
use Rattle.search_book.specs.Nodes.{area_of, HasPhase}
use Rattle.search_book.specs.BookState.{BookState}
use Rattle.search_book.specs.Events.{half_node, divided, split_node}
use Rattle.search_book.specs.Counts.{due_size}
use Rattle.search_book.specs.Kept.{IsKept}
use Rattle.search_book.specs.Taken.{TakenInPlace}
use Rattle.search_book.proofs.Keeps.{vec_divided, kept_divided, box_place}
use Rattle.search_book.proofs.Dues.{due_divided}
use Rattle.search_book.proofs.Takes.{book_takes}
use Rattle.search_book.proofs.book.Book.split.Goals as goal

pub halves-requires-clause-supplier : goal.halves-requires-clause-supplier
halves-requires-clause-supplier c =
    box_place c.args.self.now.job (area_of c.args.self.now.nodes c.args.n) c.args.i c.args.s
    (subst (λ (a : IntervalBox). IsBoxOf c.args.self.now.job a) c.area.ensures.value c.area.ensures.of_job) c.requires.proper

pub overflow_cast-phase : goal.overflow_cast-phase
overflow_cast-phase c =
    let few = box_place c.args.self.now.job (area_of c.args.self.now.nodes c.args.n) c.args.i c.args.s
    (subst (λ (a : IntervalBox). IsBoxOf c.args.self.now.job a) c.area.ensures.value c.area.ensures.of_job) c.requires.proper in
    omega arith

-- the book as it was
abbrev was : goal.After-self-2-1 → BookState
was c = record { job = c.self.inside.job.now; nodes = c.self.inside.nodes.items; best = c.self.inside.best }

taken : (c : goal.After-self-2-1) → HasPhase (was c).nodes c.args.n Taken
taken c = subst (λ (x : BookState). HasPhase x.nodes c.args.n Taken) (sym c.self.view_is) c.requires.taken

proper : (c : goal.After-self-2-1) → IsProper (area_of (was c).nodes c.args.n) c.args.i c.args.s
proper c = subst (λ (x : BookState). IsProper (area_of x.nodes c.args.n) c.args.i c.args.s) (sym c.self.view_is) c.requires.proper

-- the box that is split
area_is : (c : goal.After-self-2-1) → c.area.result ≡ area_of (was c).nodes c.args.n
area_is c = c.area.ensures.value ∙ ap (λ (x : BookState). area_of x.nodes c.args.n) (sym c.self.view_is)

low_is : (c : goal.After-self-2-1) → c.in_ok-low_node.low_node ≡ half_node (low_half (area_of (was c).nodes c.args.n) c.args.i c.args.s) c.args.keep_low
low_is c =
    c.in_ok-low_node.ensures
    ∙ ap (λ (a : IntervalBox). half_node a c.args.keep_low) (c.halves.ensures.low ∙ ap (λ (a : IntervalBox). low_half a c.args.i c.args.s) (area_is c))

high_is : (c : goal.After-self-2-1) → c.in_ok-high_node.high_node ≡ half_node (high_half (area_of (was c).nodes c.args.n) c.args.i c.args.s) (not c.args.keep_low)
high_is c =
    c.in_ok-high_node.ensures
    ∙ ap (λ (a : IntervalBox). half_node a (not c.args.keep_low))
    (c.halves.ensures.high ∙ ap (λ (a : IntervalBox). high_half a c.args.i c.args.s) (area_is c))

-- the node of the low half has the number of the nodes that there were
number_is : (c : goal.After-self-2-1) → c.len-low.result ≡ length c.self.inside.nodes.items
number_is c =
    c.len-low.ensures ∙ (sym c.deref_mut.ensures.len
    ∙ (ap (λ (ks : List Node). length ks) c.deref_mut.ensures.value ∙ ap (λ (ks : List Node). length ks) c.in_ok-reserve.ensures.items))

nodes_are : (c : goal.After-self-2-1) → c.push_reserved-2.new.self.items ≡ (divided (was c) c.args.n c.args.i c.args.s c.args.keep_low).nodes
nodes_are c =
    let xs = c.self.inside.nodes.items in
    let size = number_is c in
    vec_divided xs c.reserve.new.self.items c.deref_mut.result.now c.mark.new.nodes c.push_reserved.new.self.items
    c.push_reserved-2.new.self.items c.in_ok-low_node.low_node c.in_ok-high_node.high_node
    (half_node (low_half (area_of xs c.args.n) c.args.i c.args.s) c.args.keep_low)
    (half_node (high_half (area_of xs c.args.n) c.args.i c.args.s) (not c.args.keep_low))
    c.reserve.new.self.len c.args.n (Split c.len-low.result (c.len-low.result + 1) c.args.i c.args.s) (Split (length xs) (length xs + 1) c.args.i c.args.s)
    c.in_ok-reserve.ensures.items c.deref_mut.ensures.value c.deref_mut.ensures.len (ap (λ k. Split k (k + 1) c.args.i c.args.s) size)
    c.mark.ensures c.push_reserved.ensures.items c.push_reserved-2.ensures.items (low_is c) (high_is c)

pub invariant_of-self-2 : goal.invariant_of-self-2
invariant_of-self-2 c =
    subst (λ (xs : List Node). IsKept (record (was c) { nodes = xs }) (c.self.inside.open_nodes + 1) c.self.inside.taken_nodes c.self.inside.first_open)
    (sym (nodes_are c))
    (kept_divided (was c) c.args.n c.args.i c.args.s c.args.keep_low c.self.inside.open_nodes c.self.inside.taken_nodes c.self.inside.first_open
    c.self.invariant (taken c) (proper c))

pub returns-clause-due : goal.returns-clause-due
returns-clause-due c =
    ap (λ (xs : List Node). due_size (record (was c) { nodes = xs }) + 1) (nodes_are c)
    ∙ (due_divided (was c) c.args.n c.args.i c.args.s c.args.keep_low c.self.invariant.covered (taken c) (proper c) ∙ ap due_size c.self.view_is)

pub returns-clause-takes : goal.returns-clause-takes
returns-clause-takes c =
    let t : BookState = record (was c) { nodes = c.push_reserved-2.new.self.items } in
    let takes = book_takes (was c) c.args.self.now _ _ (split_node c.args.n c.args.i c.args.s c.args.keep_low) (taken c, proper c, refl) c.self.view_is (nodes_are c) in
    let number = number_is c ∙ ap (λ (x : BookState). length x.nodes) c.self.view_is in
    subst (λ m. TakenInPlace c.args.self.now c.args.n (if c.args.keep_low then m else m + 1) t) (sym number) takes
