use Rattle.std.proofs.Common.{◌≡◌, ◌++◌, map, take, drop}
use Rattle.search_book.specs.Events.{freed}
use Rattle.search_book.proofs.nodes.release.Given as goal

-- the nodes so far are freed, the others as they were
abbrev pub invariant-loop-node : goal.invariant-loop-node
invariant-loop-node l = l.nodes ≡ map freed (take l.node-index l.fn.nodes) ++ drop l.node-index l.fn.nodes
