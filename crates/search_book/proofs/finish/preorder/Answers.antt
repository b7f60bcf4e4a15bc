use Rattle.std.proofs.Common.{List, ℕ, ◌<◌, [], ◌∷◌, ◌++◌, ◌≡◌, set, length, count_by, sym, ap, subst, ◌∙◌, arith}
use Rattle.bound_tree.specs.declared.leaf.TreeNode.{TreeNode}
use Rattle.search_book.specs.declared.node.Node.{Node}
use Rattle.search_book.specs.declared.node.Phase.{Phase}
use Rattle.search_book.specs.declared.node.Phase.TheVariants.{Taken}
use Rattle.search_book.specs.Nodes.{phase_of, with_phase}
use Rattle.search_book.specs.Counts.{is_split}
use Rattle.search_book.specs.Preorder.{own_nodes, next_nodes}
use Rattle.search_book.proofs.Marks.{read_is}
use Rattle.search_book.proofs.Trees.{IsRead, read_begins, top_known, read_goes_on, read_falls, read_ends, taken_out, empty}
use Rattle.search_book.proofs.finish.preorder.Goals as goal

pub loop-n-init : goal.loop-n-init
loop-n-init c =
    let xs = c.args.nodes.items in
    let begun = read_begins xs c.requires.read.0 c.requires.read.1 c.requires.once in
    let stack = c.in_ok-push.ensures.items ∙ ap (λ (js : List ℕ). js ++ (0 ∷ [])) c.new-todo.ensures.items in
    subst (λ (done : List TreeNode). IsRead xs xs done c.push.new.self.items) (sym c.new-tree.ensures) (subst (λ (js : List ℕ). IsRead xs xs [] js) (sym stack) begun)

pub index_mut-requires : goal.index_mut-requires
index_mut-requires c =
    let at = c.loop-n in
    let known = top_known c.args.nodes.items at.nodes.items at.tree at.todo.items c.pop.new.self.items c.in-Some.n at.invariant c.in-Some.ensures.items in
    omega (arith, at.nodes.ok.0)

-- the node on top of the stack is there, and its phase is taken out
known : (c : goal.In_ok-visit) → c.in-Some.n < length c.loop-n.nodes.items
known c = top_known c.args.nodes.items c.loop-n.nodes.items c.loop-n.tree c.loop-n.todo.items c.pop.new.self.items c.in-Some.n c.loop-n.invariant c.in-Some.ensures.items

nodes_are : (c : goal.In_ok-visit) → set c.loop-n.nodes.items c.in-Some.n (record { area = c.index_mut.result.now.area; phase = c.replace-phase.new.dest }) ≡ with_phase c.loop-n.nodes.items c.in-Some.n Taken
nodes_are c =
    taken_out c.loop-n.nodes.items c.in-Some.n c.index_mut.result.now c.replace-phase.new.dest
    (read_is c.loop-n.nodes.items c.in-Some.n c.index_mut.result.now (known c) c.index_mut.ensures.value) c.replace-phase.ensures.after

phase_is : (c : goal.In_ok-visit) → c.replace-phase.result ≡ phase_of c.loop-n.nodes.items c.in-Some.n
phase_is c =
    c.replace-phase.ensures.value
    ∙ ap (λ (x : Node). x.phase) (read_is c.loop-n.nodes.items c.in-Some.n c.index_mut.result.now (known c) c.index_mut.ensures.value)

stack_is : (c : goal.In_ok-visit) → c.visit.new.todo.items ≡ c.pop.new.self.items ++ next_nodes (phase_of c.loop-n.nodes.items c.in-Some.n)
stack_is c = c.in_ok-visit.ensures.todo ∙ ap (λ (p : Phase). c.pop.new.self.items ++ next_nodes p) (phase_is c)

tree_is : (c : goal.In_ok-visit) → c.visit.new.tree ≡ c.loop-n.tree ++ own_nodes (phase_of c.loop-n.nodes.items c.in-Some.n)
tree_is c = c.in_ok-visit.ensures.tree ∙ ap (λ (p : Phase). c.loop-n.tree ++ own_nodes p) (phase_is c)

pub loop-n-smaller : goal.loop-n-smaller
loop-n-smaller c =
    let left = read_falls c.loop-n.nodes.items c.pop.new.self.items c.loop-n.todo.items c.in-Some.n (known c) c.in-Some.ensures.items in
    let splits = ap (λ (xs : List Node). count_by (λ (x : Node). is_split x.phase) xs) (nodes_are c) in
    omega (arith, ap (λ (js : List ℕ). length js) (stack_is c))

pub loop-n-preserved : goal.loop-n-preserved
loop-n-preserved c =
    let on = read_goes_on c.args.nodes.items c.loop-n.nodes.items c.loop-n.tree c.loop-n.todo.items c.pop.new.self.items c.in-Some.n c.loop-n.invariant c.in-Some.ensures.items in
    subst (λ (xs : List Node). IsRead c.args.nodes.items xs c.visit.new.tree c.visit.new.todo.items) (sym (nodes_are c))
    (subst (λ (done : List TreeNode). IsRead c.args.nodes.items (with_phase c.loop-n.nodes.items c.in-Some.n Taken) done c.visit.new.todo.items) (sym (tree_is c))
    (subst (λ (js : List ℕ). IsRead c.args.nodes.items (with_phase c.loop-n.nodes.items c.in-Some.n Taken) (c.loop-n.tree ++ own_nodes (phase_of c.loop-n.nodes.items c.in-Some.n)) js) (sym (stack_is c)) on))

pub returns : goal.returns
returns c = read_ends c.args.nodes.items c.loop-n.nodes.items c.loop-n.tree c.loop-n.todo.items c.loop-n.invariant (empty c.loop-n.todo.items (let none = c.in_default.ensures.cases.0 in omega (arith, c.loop-n.todo.ok.0)))
