use Rattle.tqd_base.proofs.RealLemmas.{writes_file, writing_same}
use Rattle.tqd_base.proofs.real_slot.RealSlot.write.Goals as goal

pub unreachable-requires : goal.unreachable-requires
unreachable-requires g c = writes_file c.args.self.now c.in_default.not-Writing c.requires

pub unreachable-unreachable : goal.unreachable-unreachable
unreachable-unreachable g c = c.unreachable.result

pub returns : goal.returns
returns g c = writing_same c.args.self.now c.in-Writing.field-0 _ c.write_whole.new.writer c.in-Writing.is
