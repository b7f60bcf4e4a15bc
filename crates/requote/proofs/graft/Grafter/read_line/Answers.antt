use Rattle.std.proofs.Common.{Option, true, false, sym, ap, subst, ◌∙◌}
use Rattle.std.proofs.lemmas.Result.{IfOk-weaker}
use Rattle.bound_tree.specs.declared.line.LineHead.{LineHead}
use Rattle.bound_tree.specs.LineHead.{prices_of}
use Rattle.search_book.specs.declared.node.Phase.TheVariants.{Open, Closed}
use Rattle.search_book.specs.Events.{close_node, give_back}
use Rattle.requote.specs.declared.graft.DueNode.{DueNode}
use Rattle.requote.specs.declared.said.Said.TheVariants.{Splits, Kills, FallsShort, Nothing}
use Rattle.requote.specs.Reading.{FillsSlot, said_of, Follows, FollowsSaid, left_events}
use Rattle.search_book.specs.Runs.{Leads}
use Rattle.requote.proofs.Leading.{marked_like, after_last}
use Rattle.requote.proofs.LineFollows.{filled_follows, said_follows, leaf_follows}
use Rattle.requote.proofs.graft.Grafter.read_line.Goals as goal

pub returns-then-fills_slot-clause-follows : goal.returns-then-fills_slot-clause-follows
returns-then-fills_slot-clause-follows c =
    let old = c.args.self.now in
    let first = c.fills_slot.new.self in
    let fills = c.if-fills_slot.ensures in
    filled_follows old first c.args.node c.args.line.now fills.book fills.due
    (subst (λ (head : Option LineHead). FillsSlot old first head (prices_of c.args.line.now) true) c.line_head-head.ensures fills.fills)

pub returns-in-Splits-clause-follows : goal.returns-in-Splits-clause-follows
returns-in-Splits-clause-follows c =
    let old = c.args.self.now in
    let first = c.fills_slot.new.self in
    let mid = c.said.new.self in
    let new = c.split.new.self in
    let node = c.args.node in
    let line = c.args.line.now in
    let answer = Splits c.in-Splits.supplier c.in-Splits.at in
    let fills = c.if-fills_slot.ensures in
    let told = c.in_ok-supplier.ensures in
    IfOk-weaker c.split.result (FollowsSaid mid node answer new) (Follows old node line new)
    (λ (next : Option DueNode) follows. said_follows old first mid new node line answer next fills.book
    (subst (λ (head : Option LineHead). FillsSlot old first head (prices_of line) false) c.line_head-head.ensures fills.fills)
    told.book told.due told.slots
    (sym c.in-Splits.is ∙ told.says ∙ ap (λ (head : Option LineHead). said_of first node head (prices_of line)) c.line_head-head.ensures) follows)
    c.split.ensures.follows

pub returns-in-Kills-clause-follows : goal.returns-in-Kills-clause-follows
returns-in-Kills-clause-follows c =
    let old = c.args.self.now in
    let first = c.fills_slot.new.self in
    let mid = c.said.new.self in
    let done = c.close.new.self in
    let new = c.take_next.new.self in
    let node = c.args.node in
    let line = c.args.line.now in
    let leaf = c.in-Kills.leaf in
    let fills = c.if-fills_slot.ensures in
    let told = c.in_ok-supplier.ensures in
    let closed = c.close.ensures in
    said_follows old first mid new node line (Kills leaf) c.take_next.result fills.book
    (subst (λ (head : Option LineHead). FillsSlot old first head (prices_of line) false) c.line_head-head.ensures fills.fills)
    told.book told.due told.slots
    (sym c.in-Kills.is ∙ told.says ∙ ap (λ (head : Option LineHead). said_of first node head (prices_of line)) c.line_head-head.ensures)
    (leaf_follows mid done new node (close_node node.number leaf) c.take_next.result closed.happens (marked_like mid.book done.book node.number (Closed leaf) closed.happens.2)
    closed.due closed.slots c.take_next.ensures.takes c.take_next.ensures.slots)

pub returns-in-FallsShort-clause-follows : goal.returns-in-FallsShort-clause-follows
returns-in-FallsShort-clause-follows c =
    let old = c.args.self.now in
    let first = c.fills_slot.new.self in
    let mid = c.said.new.self in
    let done = c.give_back.new.self in
    let new = c.take_next-in-FallsShort.new.self in
    let node = c.args.node in
    let line = c.args.line.now in
    let fills = c.if-fills_slot.ensures in
    let told = c.in_ok-supplier.ensures in
    let given = c.give_back.ensures in
    let taken = c.take_next-in-FallsShort in
    said_follows old first mid new node line FallsShort taken.result fills.book
    (subst (λ (head : Option LineHead). FillsSlot old first head (prices_of line) false) c.line_head-head.ensures fills.fills)
    told.book told.due told.slots
    (sym c.in-FallsShort.is ∙ told.says ∙ ap (λ (head : Option LineHead). said_of first node head (prices_of line)) c.line_head-head.ensures)
    (leaf_follows mid done new node (give_back node.number) taken.result given.happens (marked_like mid.book done.book node.number Open given.happens.1)
    given.due given.slots taken.ensures.takes taken.ensures.slots)

pub returns-in-Nothing-clause-follows : goal.returns-in-Nothing-clause-follows
returns-in-Nothing-clause-follows c =
    let old = c.args.self.now in
    let first = c.fills_slot.new.self in
    let mid = c.said.new.self in
    let new = c.leave.new.self in
    let node = c.args.node in
    let line = c.args.line.now in
    let fills = c.if-fills_slot.ensures in
    let told = c.in_ok-supplier.ensures in
    said_follows old first mid new node line Nothing c.leave.result fills.book
    (subst (λ (head : Option LineHead). FillsSlot old first head (prices_of line) false) c.line_head-head.ensures fills.fills)
    told.book told.due told.slots
    (sym c.in-Nothing.is ∙ told.says ∙ ap (λ (head : Option LineHead). said_of first node head (prices_of line)) c.line_head-head.ensures)
    (λ lines end leads. after_last mid.book new.book end node.number c.leave.ensures.happens
    (subst (λ (next : Option DueNode). Leads new.book (left_events new next lines) end) c.leave.ensures.none leads))
