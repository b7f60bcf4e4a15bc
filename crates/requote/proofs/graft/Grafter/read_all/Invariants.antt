use Rattle.std.proofs.Common.{◌+◌, ◌*◌, length}
use Rattle.std.specs.Prelude.{IfSome}
use Rattle.search_book.specs.BookState.{BookState}
use Rattle.search_book.specs.Runs.{Leads}
use Rattle.requote.specs.Reading.{IsAt, left_events}
use Rattle.requote.proofs.ReadLoop.{if_taken}
use Rattle.requote.proofs.graft.Grafter.read_all.Given as goal

abbrev pub invariant-loop-next : goal.invariant-loop-next
invariant-loop-next l = record {
  at : IfSome l.next (IsAt l.self);
  leads : (end : BookState) → Leads l.self.book (left_events l.self l.next l.lines) end
      → Leads l.initial.self.book (left_events l.initial.self l.initial.next l.initial.lines) end;
}

abbrev pub decreases-loop-next : goal.decreases-loop-next
decreases-loop-next l = 2 * length l.lines + if_taken l.next
