-- The reply ends the run.
use Rattle.tqd_top.proofs.program.run_alone.Goals as goal

pub returns : goal.returns
returns g c = c.end.ensures _ _ c.requires c.reply_to-alone.ensures
