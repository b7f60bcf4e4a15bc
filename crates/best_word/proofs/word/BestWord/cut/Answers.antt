use Rattle.std.proofs.Common.{◌∙◌, sym, ap, arith}
use Rattle.best_word.specs.Seen.{WordSeen, SeatSeen}
use Rattle.best_word.proofs.Moves.{splits}
use Rattle.best_word.proofs.word.BestWord.cut.Goals as goal

pub split_seat-token-requires : goal.split_seat-token-requires
split_seat-token-requires g c =
    let shared = c.self.inside.table.shared in
    let token = c.seat.inside.token in
    let own = ap (λ (s : SeatSeen). s.word) c.seat.view_is ∙ (c.requires.word ∙ sym (ap (λ (b : WordSeen). b.word) c.self.view_is)) in
    let parts = ap (λ (s : SeatSeen). s.parts) c.seat.view_is in
    let portion = c.requires.portion in
    (own, omega arith, splits shared.key token.id g.N.Portion.parts token.me.0 (omega arith) (omega arith))
