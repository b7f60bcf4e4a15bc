-- The reply is printed, and has the headline by the laws of verdicts.
use Rattle.tqd_top.proofs.Headlines.{ends}
use Rattle.tqd_top.proofs.program.end.Goals as goal

pub returns : goal.returns
returns g c = λ old words idle replies. ends
    (record {
      optimal = c.verdicts_are_exact.ensures.optimal;
      none = c.verdicts_are_exact.ensures.none;
      sound = c.yes_is_sound.ensures.optimal;
      empty = c.yes_is_sound.ensures.none;
    })
    g.D.Desk.absent_is_empty old (g.D.Desk.state c.args.desk.now) (g.D.Desk.state c.answer-answer.new.desk) words _ _ idle replies c.answer-answer.ensures c.status.ensures
