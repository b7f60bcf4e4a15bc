use Rattle.std.proofs.Common.{ap, sym, ◌∙◌, slice_set}
use Rattle.std.proofs.lemmas.List.Edits.{map_over_more}
use Rattle.search_book.specs.Events.{freed}
use Rattle.search_book.proofs.nodes.release.Goals as goal

pub loop-node-preserved : goal.loop-node-preserved
loop-node-preserved c =
    let at = c.loop-node in
    ap (slice_set at.nodes at.node-index) (c.free.ensures ∙ ap freed (sym c.node-item.is)) ∙ map_over_more freed c.args.nodes.now at.nodes at.node-index c.node-item.result c.loop-node-test.true at.invariant c.node-item.is
