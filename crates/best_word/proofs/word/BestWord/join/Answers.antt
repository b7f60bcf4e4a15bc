use Rattle.std.proofs.Common.{◌∙◌, sym, ap, arith}
use Rattle.best_word.specs.Seen.{WordSeen, SeatSeen}
use Rattle.best_word.proofs.Moves.{joins}
use Rattle.best_word.proofs.word.BestWord.join.Goals as goal

pub join_seat-requires : goal.join_seat-requires
join_seat-requires c =
    let shared = c.self.inside.table.shared in
    let token = c.seat.inside.token in
    let other = c.other.inside.token in
    let this = sym (ap (λ (b : WordSeen). b.word) c.self.view_is) in
    let own = ap (λ (s : SeatSeen). s.word) c.seat.view_is ∙ (c.requires.0 ∙ this) in
    let theirs = ap (λ (s : SeatSeen). s.word) c.other.view_is ∙ (c.requires.1 ∙ this) in
    (own, theirs, c.other.invariant.0, omega arith, joins shared.key token.id token.me.0 other.id other.me.0 c.seat.invariant.3)
