use Rattle.tqd_base.proofs.memory_desk.MemoryDesk.output.Goals as goal

pub returns : goal.returns
returns c = c.output.ensures
