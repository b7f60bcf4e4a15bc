use Rattle.std.proofs.Common.{List, ap, sym, subst, ◌∙◌}
use Rattle.interval_box.specs.declared.boxes.IntervalBox.{IntervalBox}
use Rattle.search_book.specs.declared.node.Node.{Node}
use Rattle.search_book.specs.BookState.{BookState}
use Rattle.search_book.specs.Answers.{state_of, IsTakenAt}
use Rattle.requote.specs.Reading.{AreOpen}
use Rattle.requote.proofs.OpenNodes.{first_open, open_taken}
use Rattle.requote.proofs.graft.Grafter.take_next.Goals as goal

pub take-requires : goal.take-requires
take-requires c =
    let self = c.args.self.now in
    (first_open self.book.nodes self.due c.in_ok-node.node c.pop.new.self c.in_ok-node.ensures c.requires).waiting.known

pub unreachable-requires : goal.unreachable-requires
unreachable-requires c =
    let self = c.args.self.now in
    let first = first_open self.book.nodes self.due c.in_ok-node.node c.pop.new.self c.in_ok-node.ensures c.requires in
    let says = c.in-NotOpen.ensures.says in
    says.1 (says.0 ∙ ap state_of first.waiting.is)

pub returns-clause-at : goal.returns-clause-at
returns-clause-at c =
    let self = c.args.self.now in
    let node = c.in_ok-node.node in
    let first = first_open self.book.nodes self.due node c.pop.new.self c.in_ok-node.ensures c.requires in
    let says = c.in-Got.ensures.says in
    record {
      taken = subst (λ (area : IntervalBox). IsTakenAt c.take.new.self node.number area) (says.0 ∙ first.area) c.in-Got.ensures.taken;
      open_ones = subst (λ (nodes : List Node). AreOpen nodes c.pop.new.self) (sym (ap (λ (s : BookState). s.nodes) says.1.1))
          (open_taken self.book.nodes node c.pop.new.self first.all);
    }
