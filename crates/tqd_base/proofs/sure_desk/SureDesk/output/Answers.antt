use Rattle.tqd_base.proofs.sure_desk.SureDesk.output.Goals as goal

pub returns : goal.returns
returns c = c.output.ensures
