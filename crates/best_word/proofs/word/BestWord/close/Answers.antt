use Rattle.std.proofs.Common.{◌≡◌, ◌≤◌, ◌∙◌, sym, ap, arith}
use Rattle.std.specs.Slots.{slots_items}
use Rattle.best_word.specs.Seen.{WordSeen, SeatSeen}
use Rattle.best_word.proofs.Moves.{closes}
use Rattle.best_word.proofs.word.BestWord.close.Goals as goal

answer : (c : goal.After-free) → (c.word-best.result ≡ c.args.seat.put) × (c.word-best.result ≤ c.args.seat.seen)
answer c =
    let shared = c.self.inside.table.shared in
    let token = c.seat.inside.token in
    let closed = c.close_with-closed.result in
    let all = ap (λ (s : SeatSeen). s.parts) c.seat.view_is ∙ (c.requires.1 ∙ sym (ap (λ (b : WordSeen). b.parts) c.self.view_is)) in
    let put = ap (λ (s : SeatSeen). s.put) c.seat.view_is in
    let seen = ap (λ (s : SeatSeen). s.seen) c.seat.view_is in
    let best = closes shared.key token.id token.me.0 (slots_items closed.words) (slots_items closed.slots) c.word-best.result all c.seat.invariant.1 c.close_with-closed.ensures.values.2 c.word-best.ensures in
    (best.0 ∙ put, omega arith)

pub returns-clause-answer : goal.returns-clause-answer
returns-clause-answer c = (answer c).0

pub returns-clause-at_most : goal.returns-clause-at_most
returns-clause-at_most c = (answer c).1
