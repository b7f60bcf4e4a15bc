use Rattle.std.proofs.Common.{◌∙◌, sym, ap, arith}
use Rattle.best_word.specs.Seen.{WordSeen, SeatSeen}
use Rattle.best_word.proofs.Moves.{publishes}
use Rattle.best_word.proofs.word.BestWord.publish.Goals as goal

pub fetch_min-requires : goal.fetch_min-requires
fetch_min-requires c =
    let shared = c.self.inside.table.shared in
    let token = c.seat.inside.token in
    let own = ap (λ (s : SeatSeen). s.word) c.seat.view_is ∙ (c.requires ∙ sym (ap (λ (b : WordSeen). b.word) c.self.view_is)) in
    (own, omega arith, publishes shared.key shared.table_id.slots token.id _ token.me c.seat.invariant.3)
