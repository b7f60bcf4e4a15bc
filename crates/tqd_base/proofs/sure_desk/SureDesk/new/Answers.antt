use Rattle.tqd_base.proofs.sure_desk.SureDesk.new.Goals as goal

pub returns-clause-empty : goal.returns-clause-empty
returns-clause-empty c = c.new.ensures.world
