use Rattle.std.proofs.Common.{◌+◌, ◌*◌, ◌≤◌, length, sym, subst}
use Rattle.interval_box.specs.Size.{size}
use Rattle.search_book.specs.Nodes.{area_of}
use Rattle.search_book.specs.BookState.{BookState}
use Rattle.search_book.specs.TreeOf.{IsTreeFor}
use Rattle.search_book.specs.Answers.{IsSettled, Decides}
use Rattle.search_book.proofs.Remains.{settled_decides}
use Rattle.search_book.proofs.Trees.{tree_exists, named_once, tree_for, tree_small}
use Rattle.search_book.proofs.book.Book.finish.Goals as goal

pub preorder-requires-clause-read : goal.preorder-requires-clause-read
preorder-requires-clause-read c =
    let s : BookState = record { job = c.self.inside.job.now; nodes = c.self.inside.nodes.items; best = c.self.inside.best } in
    tree_exists s c.self.invariant.covered (subst IsSettled (sym c.self.view_is) c.requires)

pub preorder-requires-clause-once : goal.preorder-requires-clause-once
preorder-requires-clause-once c =
    let s : BookState = record { job = c.self.inside.job.now; nodes = c.self.inside.nodes.items; best = c.self.inside.best } in
    named_once s c.self.invariant.covered

pub returns-in_err-tree-clause-decided : goal.returns-in_err-tree-clause-decided
returns-in_err-tree-clause-decided c =
    let s : BookState = record { job = c.self.inside.job.now; nodes = c.self.inside.nodes.items; best = c.self.inside.best } in
    subst Decides c.self.view_is (settled_decides s c.self.invariant.covered (subst IsSettled (sym c.self.view_is) c.requires))

pub returns-clause-decided : goal.returns-clause-decided
returns-clause-decided c =
    let s : BookState = record { job = c.self.inside.job.now; nodes = c.self.inside.nodes.items; best = c.self.inside.best } in
    subst Decides c.self.view_is (settled_decides s c.self.invariant.covered (subst IsSettled (sym c.self.view_is) c.requires))

pub returns-clause-tree : goal.returns-clause-tree
returns-clause-tree c =
    let s : BookState = record { job = c.self.inside.job.now; nodes = c.self.inside.nodes.items; best = c.self.inside.best } in
    subst (λ (x : BookState). IsTreeFor x c.in_ok-tree.tree) c.self.view_is (tree_for s c.in_ok-tree.tree c.self.invariant.covered c.in_ok-tree.ensures)

pub returns-clause-bounded : goal.returns-clause-bounded
returns-clause-bounded c =
    let s : BookState = record { job = c.self.inside.job.now; nodes = c.self.inside.nodes.items; best = c.self.inside.best } in
    subst (λ (x : BookState). length c.in_ok-tree.tree + 1 ≤ 2 * size x.job (area_of x.nodes 0)) c.self.view_is
    (tree_small s c.in_ok-tree.tree c.self.invariant.covered (tree_for s c.in_ok-tree.tree c.self.invariant.covered c.in_ok-tree.ensures))
