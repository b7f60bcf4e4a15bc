use Rattle.std.proofs.Common.{List, Option, Some, length, sym, subst}
use Rattle.std.specs.Prelude.{IfSome}
use Rattle.tqd_base.specs.World.{Bytes}
use Rattle.search_book.specs.BookState.{best_cost}
use Rattle.search_book.specs.Events.{Event}
use Rattle.search_book.specs.Runs.{Leads}
use Rattle.requote.specs.declared.graft.DueNode.{DueNode}
use Rattle.requote.specs.Reading.{IsAt, store_in, left_events}
use Rattle.requote.proofs.Leading.{end_is, after_last}
use Rattle.requote.proofs.graft.Grafter.read_all.Goals as goal

pub loop-next-preserved-in_ok-next-in-Some-next : goal.loop-next-preserved-in_ok-next-in-Some-next
loop-next-preserved-in_ok-next-in-Some-next c =
    let self = c.loop-next.self in
    let read = c.in_ok-next-in-Some-next.ensures in
    record {
      at = read.at;
      leads = λ end leads. c.loop-next.invariant.leads end
          (subst (λ (next : Option DueNode). Leads self.book (left_events self next c.loop-next.lines) end) (sym c.in-Some.is)
          (subst (λ (lines : List Bytes). Leads self.book (left_events self (Some c.in-Some.node) lines) end) (sym c.in-Some-next.ensures)
          (read.follows c.next.new.self end leads)));
    }

pub loop-next-preserved : goal.loop-next-preserved
loop-next-preserved c =
    let self = c.loop-next.self in
    let node = c.in-Some.node in
    let new = c.leave-next.new.self in
    record {
      at = subst (λ (next : Option DueNode). IfSome next (IsAt new)) (sym c.leave-next.ensures.none) tt;
      leads = λ end leads. c.loop-next.invariant.leads end
          (subst (λ (next : Option DueNode). Leads self.book (left_events self next c.loop-next.lines) end) (sym c.in-Some.is)
          (subst (λ (lines : List Bytes). Leads self.book (left_events self (Some node) lines) end) (sym c.in-None.ensures.0)
          (subst (λ (es : List Event). Leads self.book es end) (sym (end_is self.book.job (best_cost self.book) (store_in self) (length self.book.nodes) node self.due))
          (after_last self.book new.book end node.number c.leave-next.ensures.happens
          (subst (λ (next : Option DueNode). Leads new.book (left_events new next c.next.new.self) end) c.leave-next.ensures.none leads)))));
    }
