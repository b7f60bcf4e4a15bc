use Rattle.std.proofs.Common.{List, ap, sym, subst}
use Rattle.search_book.specs.declared.node.Node.{Node}
use Rattle.search_book.specs.declared.node.Phase.TheVariants.{Open}
use Rattle.search_book.specs.BookState.{BookState}
use Rattle.requote.specs.Reading.{AreOpen}
use Rattle.requote.proofs.OpenNodes.{open_marked}
use Rattle.requote.proofs.graft.Grafter.give_back.Goals as goal

pub returns-clause-open_ones : goal.returns-clause-open_ones
returns-clause-open_ones c =
    let self = c.args.self.now in
    subst (λ (nodes : List Node). AreOpen nodes self.due) (sym (ap (λ (s : BookState). s.nodes) c.give_back.ensures.happens.1))
    (open_marked self.book.nodes c.args.node.number Open self.due c.requires.taken.taken c.requires.open_ones)
